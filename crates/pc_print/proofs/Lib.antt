pub mod PrintedDepth
pub mod PrintedFeeds
pub mod PrintedForms
pub mod PrintedNames
pub mod PrintedOnce
pub mod PrintedRuleText
pub mod PrintedRules
pub mod PrintedTokens

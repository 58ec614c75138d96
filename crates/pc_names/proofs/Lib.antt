pub mod NamesLemmas
pub mod NumberText
pub mod Places
pub mod Spellings
pub mod Written
pub mod SpaceLemmas
pub mod LineWordLemmas

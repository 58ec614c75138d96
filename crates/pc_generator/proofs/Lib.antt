pub mod CheapestLemmas
pub mod Counting
pub mod NumberedNames
pub mod Standing

pub mod Spaces
pub mod LineWords
pub mod Spelling
pub mod Name
pub mod Places
pub mod Stored
pub mod Number

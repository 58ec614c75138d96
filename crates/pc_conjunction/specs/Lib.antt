pub mod Places
pub mod Meets
pub mod Conjunctions
pub mod Reached
pub mod Stores

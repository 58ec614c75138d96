pub mod Change
pub mod Visits
pub mod Own
pub mod Shelves
pub mod Book
pub mod Sharing
pub mod Rebases

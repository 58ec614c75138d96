pub mod Rose
pub mod Distinct
pub mod Lines
pub mod Reserved
pub mod Reader
pub mod Grown

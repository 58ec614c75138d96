pub mod Each
pub mod Layered
pub mod Rows
pub mod Sets
pub mod TableRows

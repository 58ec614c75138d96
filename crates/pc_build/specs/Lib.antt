pub mod Chains
pub mod Demands
pub mod Extracts
pub mod Named
pub mod Making
pub mod Building

pub mod Nameable

pub mod Bike
pub mod Draft
pub mod Dump
pub mod Form
pub mod Judged
pub mod Put
pub mod Reading

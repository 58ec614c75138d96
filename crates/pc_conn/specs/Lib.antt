pub mod Answers
pub mod BodyText
pub mod Items
pub mod Reading

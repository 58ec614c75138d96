pub mod BodyRead

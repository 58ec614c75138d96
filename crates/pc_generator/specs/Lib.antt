pub mod Size
pub mod GeneratedFile
pub mod GeneratorCalls
pub mod Standing
pub mod Summary
pub mod Answers

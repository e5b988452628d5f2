pub mod Coding
pub mod Journal

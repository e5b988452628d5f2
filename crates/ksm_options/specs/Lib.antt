pub mod CommandLine
pub mod Plain
pub mod Settings
pub mod Told

pub mod Refusals
pub mod Troubles
pub mod Sentences

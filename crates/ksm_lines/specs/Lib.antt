pub mod Content
pub mod Knobs
pub mod Grammar
pub mod Reading
pub mod Digits
pub mod Leading
pub mod Worked

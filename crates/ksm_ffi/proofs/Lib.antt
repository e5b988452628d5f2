pub mod Boxes
pub mod Read
pub mod Seen
pub mod Told
pub mod Values
pub mod Waiting

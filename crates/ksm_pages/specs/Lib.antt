pub mod Terms
pub mod Ahead
pub mod Ordered
pub mod Held
pub mod Unstable
pub mod Filed
pub mod Paged

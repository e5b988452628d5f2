pub mod Seen
pub mod Named
pub mod Locked
pub mod Handed
pub mod Chained
pub mod Published
pub mod Opening
pub mod Unlocked

pub mod Ends
pub mod Sent
pub mod Statuses

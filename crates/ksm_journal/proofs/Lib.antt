pub mod Entries
mod Walks

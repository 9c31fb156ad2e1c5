pub mod Ways
pub mod Queries

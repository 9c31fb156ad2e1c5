pub mod Ways
pub mod Passages

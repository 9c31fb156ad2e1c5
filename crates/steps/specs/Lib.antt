pub mod Chain
pub mod Node
pub mod Relay
pub mod Control
pub mod Marked

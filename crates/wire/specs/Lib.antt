pub mod Numbers
pub mod Version
pub mod Packet

pub mod Numbers
pub mod Answers
pub mod Versions
pub mod Packet
pub mod RoundTrip
pub mod Literals
pub mod Examples
pub mod Once

pub mod Record
pub mod Fields
pub mod RoundTrip
pub mod Answers
pub mod Examples
pub mod Once

pub mod Bytes
pub mod Headline
pub mod Events
pub mod Caller
pub mod Exports

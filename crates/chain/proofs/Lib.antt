pub mod Ids
pub mod Places
pub mod Rules

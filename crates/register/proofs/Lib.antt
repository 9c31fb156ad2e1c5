pub mod Judged
pub mod Laws
pub mod Steps
pub mod Once

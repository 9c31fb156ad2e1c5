pub mod Table
pub mod Held

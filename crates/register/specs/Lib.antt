pub mod Boundary
pub mod Rulings

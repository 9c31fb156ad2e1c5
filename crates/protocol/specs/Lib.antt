pub mod System
pub mod Demand
pub mod Inv
pub mod Trace
pub mod Runs

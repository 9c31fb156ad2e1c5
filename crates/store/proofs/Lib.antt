pub mod Slot
pub mod Rows
pub mod Find
pub mod Rules
pub mod Blank
pub mod Examples
pub mod BlankExamples

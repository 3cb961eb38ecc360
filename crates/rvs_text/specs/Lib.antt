pub mod Outcomes
pub mod Options
pub mod Bytes
pub mod Spaces
pub mod Parts

pub mod Texts
pub mod Compare
pub mod Validate
pub mod Normalize
pub mod Select
pub mod Demonstrate

pub mod Adding
pub mod Sharing

pub mod Once
pub mod Again
pub mod Example

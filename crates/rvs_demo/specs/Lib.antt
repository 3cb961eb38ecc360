pub mod Counted
pub mod Demo
pub mod Label
pub mod Program

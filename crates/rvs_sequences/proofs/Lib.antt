pub mod Assignments
pub mod Choices
pub mod Excluding
pub mod Solutions
pub mod Solved

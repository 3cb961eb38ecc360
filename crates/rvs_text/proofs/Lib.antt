pub mod Lists
pub mod Ends
pub mod Fronts
pub mod Names
mod Marks
pub mod Splits

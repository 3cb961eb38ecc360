mod Decoding
pub mod Differences
mod Counting
mod Printing
mod Worths
mod Writing

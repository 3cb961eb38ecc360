pub mod Sums
pub mod LogReads
pub mod Tellings
pub mod Quiet

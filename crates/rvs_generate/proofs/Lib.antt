pub mod Testable
mod Listings
pub mod Runnable
mod Saying
pub mod Paths

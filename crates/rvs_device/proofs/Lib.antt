mod Back
pub mod Passing
mod Scalars
mod Leaving
pub mod Planned
mod OneMore

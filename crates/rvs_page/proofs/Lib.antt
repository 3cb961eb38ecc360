mod Back
pub mod Badges
pub mod Counts
pub mod Telling
pub mod Tiles
pub mod Verdicts

mod Drawn
mod Generated
mod Passing
mod Points
mod Regions
mod Reported
mod Running
mod Standing
pub mod Whole
mod Counted

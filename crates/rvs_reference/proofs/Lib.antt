mod TestRuns
pub mod Accepts

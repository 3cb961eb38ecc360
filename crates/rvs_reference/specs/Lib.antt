pub mod TestTexts
pub mod TestRun
pub mod Reference

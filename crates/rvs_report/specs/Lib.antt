pub mod Findings
pub mod Report

pub mod SameKinds
pub mod Distinct
pub mod Saying
pub mod Scans

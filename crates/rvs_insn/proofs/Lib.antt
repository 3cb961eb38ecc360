pub mod Distinct
pub mod Masks
pub mod RoundTrip
pub mod Columns
pub mod Regions

pub mod Cutting
pub mod Plains
pub mod Printing
pub mod Quoting
pub mod Scans

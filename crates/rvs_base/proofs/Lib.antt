mod Appends
pub mod Cuts
pub mod HexDigits
pub mod Reading
pub mod Readings
pub mod Refusing
mod Spelling

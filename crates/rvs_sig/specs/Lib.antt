pub mod Digits
pub mod Printed
pub mod Verdicts
pub mod Words

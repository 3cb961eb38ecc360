pub mod Statements
pub mod TestText
pub mod Sound
pub mod Claim
pub mod Claims

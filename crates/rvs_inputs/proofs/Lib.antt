pub mod Accepting
pub mod Keeping
pub mod Finding
pub mod Readers
pub mod GroupInputs
pub mod PartsKept
pub mod Chains
pub mod TreeFirst

pub mod Made
pub mod Found
pub mod Claimed
pub mod Named
pub mod AtomicLines
pub mod Room

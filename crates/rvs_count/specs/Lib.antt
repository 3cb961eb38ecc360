pub mod Report
pub mod Sound

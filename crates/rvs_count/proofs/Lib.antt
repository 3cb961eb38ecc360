pub mod Answered
pub mod Ends
pub mod Reports
pub mod Shifts
pub mod Streams

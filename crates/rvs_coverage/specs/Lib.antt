pub mod Summing
pub mod LogReport
pub mod Telling
pub mod LogLines
pub mod Coverage

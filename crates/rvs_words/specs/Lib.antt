pub mod Words
pub mod Commands
pub mod Windows
pub mod PartWords
pub mod FamilyWords
pub mod LogWords
pub mod Reading
pub mod CommandLaws

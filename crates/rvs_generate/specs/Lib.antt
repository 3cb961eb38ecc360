pub mod Testable
pub mod GenerateTexts
pub mod GenerateView
pub mod Generate
pub mod TestFiles
pub mod Tests
pub mod TestedInputs

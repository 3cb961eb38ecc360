pub mod RunTests
pub mod RunView
pub mod RunDatabase

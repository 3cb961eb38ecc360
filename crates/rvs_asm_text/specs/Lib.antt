pub mod Text
pub mod Numbers
pub mod Registers
pub mod Operands
pub mod Header
pub mod Instructions
pub mod Directives
pub mod Lines

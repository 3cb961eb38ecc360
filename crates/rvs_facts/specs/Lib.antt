pub mod Facts
pub mod Mnemonics

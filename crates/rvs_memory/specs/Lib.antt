pub mod Cursor
pub mod Memory

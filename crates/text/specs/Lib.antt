pub mod Columns
pub mod Lines
pub mod Tokens
pub mod Tree

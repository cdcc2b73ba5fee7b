pub mod Steps
pub mod Tapes
pub mod Turns

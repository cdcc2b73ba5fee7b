pub mod Changes
pub mod Moves
pub mod Places
pub mod Sets

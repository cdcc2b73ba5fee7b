pub mod Accepted
pub mod Limits
pub mod Registers
pub mod Settlements

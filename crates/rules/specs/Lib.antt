pub mod Faults
pub mod Laws
pub mod Ledger
pub mod Market
pub mod Refusals
pub mod Shares

pub mod Changes
pub mod Comparisons
pub mod Reductions
pub mod Strips
pub mod Tapes
pub mod Trades
pub mod Validity
pub mod Words

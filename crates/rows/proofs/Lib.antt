pub mod Lends
pub mod Scans

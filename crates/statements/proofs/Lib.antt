pub mod Joins
pub mod Reports
pub mod RowTree

pub mod Report
pub mod Rows
pub mod Statement

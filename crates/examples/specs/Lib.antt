pub mod Examples
pub mod Sessions
pub mod Table

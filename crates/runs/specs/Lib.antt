pub mod Promise
pub mod Record

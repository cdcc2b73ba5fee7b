pub mod Walk
pub mod Attempt
pub mod Rounds
pub mod Listing
pub mod Laws

pub mod Calls
pub mod Drops
pub mod Follow
pub mod Lists
pub mod Pairs
pub mod Replays
pub mod Steady
pub mod Taken

pub mod Counters
pub mod Cursor
pub mod Marks
pub mod Slots
pub mod Tables
pub mod Writes

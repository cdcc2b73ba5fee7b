pub mod Cuts
pub mod Numbers
pub mod Steps
pub mod Trees

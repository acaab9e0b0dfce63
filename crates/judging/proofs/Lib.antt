pub mod Keeping
pub mod Putting
pub mod Shrinking
pub mod Telling

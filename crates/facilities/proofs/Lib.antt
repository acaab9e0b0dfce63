pub mod Entries
pub mod Feeding
pub mod Firsts
pub mod Hours
pub mod Positions
pub mod Shrinking
pub mod Turns

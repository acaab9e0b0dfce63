pub mod Answers
pub mod Bits
pub mod Lists
pub mod Members

pub mod Cuts
pub mod Master
pub mod Measures
pub mod Refused
pub mod Rows
pub mod Tables
pub mod Tariffs
pub mod Walks

pub mod Apart
pub mod Lining
pub mod Numbers

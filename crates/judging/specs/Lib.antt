pub mod Judging
pub mod Places
pub mod Refused
pub mod Trials
pub mod Truths

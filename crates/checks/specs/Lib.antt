pub mod Answers
pub mod Closing
pub mod ClosedWorkshopLemmas

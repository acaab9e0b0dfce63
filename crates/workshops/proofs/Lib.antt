pub mod PileFacts
pub mod RunLaws
pub mod TallyFacts

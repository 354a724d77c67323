pub mod WalkLaws
pub mod ClassLaws
pub mod EntryLaws
pub mod SafepointLaws
pub mod OrderLaws

pub mod TakingLaws
pub mod WeighingLaws
pub mod BlockedLaws
pub mod AllocateLaws

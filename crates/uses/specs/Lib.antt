-- Facts for the contracts of uses. What is right is said by `rules`.
pub mod Runs
pub mod Mentions
pub mod Safepoints
pub mod Cuts

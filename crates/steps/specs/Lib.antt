-- Facts for the contracts of the steps. What is right is said by `rules`.
pub mod Stepping

-- Facts for the contracts of splits and spills. What is right is said by `rules`.
pub mod Fit
pub mod Turns

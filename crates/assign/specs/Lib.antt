-- Facts for the contracts of the main loop and of the call. What is right is said by `rules`.
pub mod Calling
pub mod Looping

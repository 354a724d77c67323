-- Names for the contracts of step 5. What is right is said by `rules`.
pub mod Safepoint

-- Facts for proofs over the definitions of `rules`: what holds of every state of a run.
pub mod Invariant
pub mod Reach
pub mod Defined
pub mod Proper

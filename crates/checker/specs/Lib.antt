-- What the rules' tests need, and what they come to.
pub mod Verdict

-- The laws behind the call.
pub mod ReadyLaws
pub mod VerdictLaws

pub mod FitLaws
pub mod SplitLaws
pub mod SpillLaws
pub mod TurnLaws
pub mod SpillingLaws
pub mod NarrowLaws

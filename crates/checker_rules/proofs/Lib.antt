-- The laws behind the rules' tests.
pub mod EntriesLaws
pub mod SaysLaws
pub mod AllLaws
pub mod OrderLaws
pub mod BridgeLaws
pub mod TilesLaws
pub mod LanesLaws
pub mod FixedLaws
pub mod HousedLaws
pub mod SlotsLaws
pub mod SafeLaws

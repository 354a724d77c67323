-- The laws of positions, of the furthest register, in a row and in a slice, and of rows.
pub mod PositionLaws
pub mod FurthestLaws
pub mod EntryLaws
pub mod RowLaws
pub mod HoldingLaws
pub mod ChoiceLaws

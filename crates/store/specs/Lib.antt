-- The lent work area: its words as four lists, and the state of `rules` that they hold.
pub mod Cells
pub mod StateOf

-- The activity tracker: the active records, its cursors, and the position that the fragments of a register give.
pub mod Bits
pub mod Fixed
pub mod Cursors
pub mod Ended

-- The laws of the fixed positions, of the cursors, and of the tracker's loops.
pub mod BitLaws
pub mod FixedLaws
pub mod CursorLaws
pub mod UpdateLaws
pub mod EndedLaws

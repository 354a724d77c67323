-- Laws of the words, of the cells that they hold, and of the state that the cells are.
pub mod WordLaws
pub mod CellLaws
pub mod SaneLaws
pub mod StateLaws
pub mod AreaLaws

-- Positions by register.
pub mod Row
pub mod Holding

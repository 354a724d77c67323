-- Laws of the call, of the record that a turn pops, of what is done with it, and of the loop.
pub mod CallLaws
pub mod FrontLaws
pub mod SettleLaws
pub mod RunLaws

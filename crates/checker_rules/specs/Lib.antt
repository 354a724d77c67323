-- What the rules' tests say, and the facts that they hand to one another.
pub mod Says
pub mod Entries
pub mod Order
pub mod Decides
pub mod Kinds
pub mod Tiles
pub mod Usable
pub mod Lanes
pub mod Fixed
pub mod Housed
pub mod Slots
pub mod Safe

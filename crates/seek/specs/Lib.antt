-- Searching a table whose words ascend.
pub mod Seek

-- The heap that holds the queue of document 01, and the queue that it holds.
pub mod Heap

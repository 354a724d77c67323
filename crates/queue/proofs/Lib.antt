-- The laws of the heap: its order, its queue as a sorted list, and one push and one pop.
pub mod OrderLaws
pub mod SortLaws
pub mod HeapLaws

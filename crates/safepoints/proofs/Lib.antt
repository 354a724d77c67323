pub mod SafepointLaws

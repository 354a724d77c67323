pub mod PointLaws
pub mod MentionLaws
pub mod RunLaws
pub mod WalkLaws
pub mod PlaceLaws
pub mod SafepointLaws
pub mod CutLaws

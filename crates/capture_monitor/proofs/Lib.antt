pub mod ReadBy
pub mod Waiting
pub mod Files
pub mod ReadEdges

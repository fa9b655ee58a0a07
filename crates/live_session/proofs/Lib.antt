pub mod Fewer
pub mod Below
pub mod Edging
pub mod Extends
pub mod Foreseeing
pub mod Going
pub mod HasText
pub mod Noting
mod SameEdges
pub mod EdgesStay
mod PinnedEdges
mod LaterStarts
mod Moving
mod EdgesOf
mod Coming
pub mod Telling
pub mod Ending
pub mod Wholly
pub mod Addressed
pub mod Saying
pub mod Answering
pub mod NoteCalls
pub mod Kept

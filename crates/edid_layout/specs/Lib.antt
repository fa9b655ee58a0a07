pub mod HdmiBlock
pub mod ForumBlock

pub mod Name
pub mod Node
pub mod Tree
pub mod Path
pub mod Port

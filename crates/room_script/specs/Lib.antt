pub mod Keys
pub mod Header
pub mod Holding
pub mod Topology
pub mod Script
pub mod Sending
pub mod Lines

pub mod StateText
pub mod TraceText
pub mod PortText
pub mod Records
pub mod Room
pub mod Notes

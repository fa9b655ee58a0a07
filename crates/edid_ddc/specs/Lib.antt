pub mod Bus
pub mod Learn
pub mod Ports
pub mod Readout

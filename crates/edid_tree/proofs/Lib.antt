pub mod Amplifiers
pub mod ClimbLemmas
pub mod PassedOn
pub mod PathLaws
pub mod PathSteps
pub mod PlugLemmas
pub mod PortBounds
pub mod PortLemmas

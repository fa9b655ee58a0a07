pub mod Steps
pub mod Ready
pub mod StepRun
pub mod Trace
pub mod Over
pub mod TraceSteps

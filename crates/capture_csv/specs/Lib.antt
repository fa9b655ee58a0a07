pub mod Clock
pub mod Csv
pub mod Level
pub mod Sampling
pub mod Text
pub mod Unit

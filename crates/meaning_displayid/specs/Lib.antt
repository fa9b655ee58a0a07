pub mod Timings
pub mod Forms
pub mod One
pub mod Two
pub mod Sections

pub mod Coordinated
pub mod Formulas
pub mod Generalized
pub mod Modes
pub mod Reduced
pub mod Tables

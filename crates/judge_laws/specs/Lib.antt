pub mod Told
pub mod States
pub mod Said
pub mod Alike
pub mod Lines

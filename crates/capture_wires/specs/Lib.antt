pub mod Noted
pub mod Wires
pub mod Left

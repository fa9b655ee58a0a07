pub mod Parted
pub mod Room
pub mod Framed

pub mod Compared
pub mod Edids
pub mod Elds
pub mod Framed
pub mod Told

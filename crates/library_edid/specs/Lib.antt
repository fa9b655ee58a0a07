pub mod Edids

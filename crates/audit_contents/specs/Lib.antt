pub mod Said
pub mod Rules
pub mod Names
pub mod Contents
pub mod Texts

pub mod Going
pub mod Names
pub mod States
pub mod Agree
pub mod Ended
pub mod Read
pub mod Declared
pub mod TracesTold
pub mod LinesTold
pub mod Said
pub mod Bare
pub mod Alike
pub mod Files
mod SaidOnce
mod Having

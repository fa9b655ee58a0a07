mod Zeros
mod Choices
mod Links
mod NoCodes
mod Sections
mod Left
mod NoTyped
pub mod Law
mod Sizes
mod Packing
mod Adding

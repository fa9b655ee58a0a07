pub mod Formats
pub mod Formulas
pub mod Layouts
pub mod Listings

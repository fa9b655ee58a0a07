pub mod Meanings
pub mod EdidMeaning

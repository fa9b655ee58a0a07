mod Choosing
mod Hinting
mod Lawful
mod Reading

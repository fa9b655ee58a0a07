mod Kept
mod Puts

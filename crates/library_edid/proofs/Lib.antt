mod Puts
mod Refusals

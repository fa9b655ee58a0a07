mod Parting
mod Adding
mod Alike
mod Beside

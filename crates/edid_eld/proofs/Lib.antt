mod Joined
mod ReadBack
mod Zeros

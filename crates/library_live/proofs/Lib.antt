mod Said
mod Values

mod Named
mod Numbering
mod Due
mod Floats

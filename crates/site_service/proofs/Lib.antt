mod Rows
mod Left
mod Dues
mod Crossing

pub mod Due
pub mod Dates
pub mod Words
pub mod Numbers
pub mod Left
pub mod Orders
pub mod Sites

pub mod Hashes
pub mod Repeats

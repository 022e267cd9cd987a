pub mod Changes
pub mod Lent
pub mod Places
pub mod Tallies
pub mod Walks

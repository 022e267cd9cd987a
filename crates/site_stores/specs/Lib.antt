pub mod Changes
pub mod Holding
pub mod Moving
pub mod Places

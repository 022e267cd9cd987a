pub mod Fresh
pub mod Sofar
pub mod Told
pub mod Holding
pub mod Adding
pub mod Tallies
pub mod Found

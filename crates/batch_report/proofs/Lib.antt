pub mod Joined
pub mod SmallDays

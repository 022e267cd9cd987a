pub mod Events
pub mod Replaying
pub mod There
pub mod Moment
pub mod Documents

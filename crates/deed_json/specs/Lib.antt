pub mod DeedFaults
pub mod Deeds
pub mod Asked
pub mod Objects
pub mod Replies
pub mod Unkept

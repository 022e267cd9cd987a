pub mod Adopting
pub mod Entries
pub mod Plans
pub mod Rooms
pub mod Standing
pub mod Trade
pub mod View
pub mod Seen

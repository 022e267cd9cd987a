pub mod Drawing
pub mod Held
pub mod Ends
pub mod Index

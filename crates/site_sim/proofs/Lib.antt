pub mod Cuts
pub mod Unlisted
pub mod Fair
pub mod Places
pub mod Literal
mod Growing
mod Keeping
mod Turned
mod Noticed
mod Gone
mod Ended
mod Blocks
mod Closed

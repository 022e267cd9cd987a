pub mod Crash
pub mod Blocks
pub mod Settled
mod Pieces
mod Touch
mod Headers
mod OneMore
pub mod Loading
mod Making
pub mod Readings
mod Everything
mod FirstWrite
mod Writing
mod Places

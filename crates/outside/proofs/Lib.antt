mod Buffers
pub mod Images
pub mod Moments
mod Nexts
mod PastMoments
pub mod Pieces
mod Undoing

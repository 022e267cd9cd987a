pub mod Chain
pub mod Pages
pub mod Paths
pub mod Segments
pub mod Targets

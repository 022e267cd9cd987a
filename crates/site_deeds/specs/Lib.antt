pub mod Decisions
pub mod Does
pub mod DrawEnds
pub mod Draws
pub mod Placed
pub mod Verdicts

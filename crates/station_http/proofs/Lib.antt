mod Scans
mod Pieces
mod Findings
mod Going
mod Bodies
mod Ends
mod Requests
mod Lengths
mod Trims
mod PlanSteps
mod Putting
mod Stays
pub mod Sessions
pub mod Unique
pub mod Fronts
mod Idles
mod Calls
mod Decided
mod Askings

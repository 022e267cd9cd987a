pub mod ExampleSite
pub mod Examples
pub mod Each
mod ExamplePool
mod ExampleHistory
mod ExampleFull
pub mod Sameness
mod Counting
pub mod Following
pub mod Items
pub mod Broken
pub mod Rewriting
pub mod Standing
pub mod SoundBatches
pub mod SoundRows
pub mod UnitCodes
pub mod SoundUnits
pub mod SoundPairs
pub mod Allowed
mod Unknown
pub mod SoundMoves
pub mod Soundness
pub mod IssuedOnce
mod MadeOnce
pub mod OrdersAgain
pub mod OrdersKept
mod ProperlyKept
mod Deciding
mod Numbered
pub mod ClosedKept
mod AccountedFor
mod Differing
mod Nesting
mod Listing
mod Sums
mod AfterClose

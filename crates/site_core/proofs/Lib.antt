mod Pages
mod Entering
mod Drawing
mod Roomy
mod Standing
mod Coming
pub mod Logs
mod Listing
mod Making
mod Owned

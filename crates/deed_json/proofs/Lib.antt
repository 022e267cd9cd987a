mod Ascii
mod Arrays
mod Entries
mod Floats
mod Json
pub mod Urns
mod Stationed
mod DeedWords

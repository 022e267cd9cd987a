pub mod Reading
pub mod Serial
pub mod Urns
pub mod TextBack

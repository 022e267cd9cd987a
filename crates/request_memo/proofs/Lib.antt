pub mod Same
pub mod Shelving
pub mod Looking

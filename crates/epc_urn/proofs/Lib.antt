pub mod Buffer
pub mod Digits
pub mod Keys
pub mod Schemes
pub mod Spelled
pub mod Serials
pub mod Whole

pub mod Exchanges
pub mod Serving
pub mod Gathered
pub mod Closing
pub mod Chain
pub mod Laws

pub mod Workers
pub mod Doors
pub mod Sites
pub mod Serves

pub mod Saying
pub mod Bodies
pub mod Told
pub mod Batches
pub mod Things

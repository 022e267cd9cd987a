pub mod Batches
pub mod Closing
pub mod Content
pub mod Ledgers
pub mod Said

pub mod Expiries
pub mod Proper
pub mod Records
mod Rows
mod Toml
mod Entries

pub mod Causes
pub mod Devices
pub mod Disks
pub mod Doors
pub mod Failing
pub mod MemoryCalls
pub mod MemoryDisks
pub mod Readers

pub mod Memos
pub mod Seeing

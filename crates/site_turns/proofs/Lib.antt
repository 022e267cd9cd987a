pub mod Desked
mod KeptReplies
mod Printed
pub mod Stepped
pub mod Counted
pub mod Turning
mod Taken
mod Telling
mod Responses

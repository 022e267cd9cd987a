mod Asking
mod Turning

pub mod Timeouts
pub mod Writer

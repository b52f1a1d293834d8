pub mod Capabilities
pub mod Writer
pub mod Promises

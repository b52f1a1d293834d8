pub mod Bytes
pub mod Frame
pub mod Builder
pub mod Promises

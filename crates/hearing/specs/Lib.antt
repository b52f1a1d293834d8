pub mod Hearing
pub mod Promises

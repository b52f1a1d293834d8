pub mod Core
pub mod Deciding
pub mod Checks
pub mod Promises

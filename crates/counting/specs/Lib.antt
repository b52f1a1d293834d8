pub mod Counting
pub mod Exact
pub mod Promises

pub mod Said
pub mod Sums
pub mod Promises

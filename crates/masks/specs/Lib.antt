pub mod Response
pub mod Mask
pub mod Written
pub mod Promises

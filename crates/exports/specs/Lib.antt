pub mod Numbers
pub mod Feeding

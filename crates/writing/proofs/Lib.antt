pub mod Puts
pub mod Theorems

pub mod Setting
pub mod Writing
pub mod Theorems

pub mod Layouts
pub mod Writing
pub mod Theorems

pub mod Layouts
pub mod Lists
pub mod Writing
pub mod Theorems

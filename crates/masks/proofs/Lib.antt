pub mod Layouts
pub mod Masks
pub mod Marked
pub mod Writing
pub mod Theorems

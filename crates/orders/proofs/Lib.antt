pub mod Patterns
pub mod Keeping
pub mod Theorems

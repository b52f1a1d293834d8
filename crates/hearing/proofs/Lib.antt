pub mod Theorems
pub mod Walks

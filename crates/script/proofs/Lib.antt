pub mod Texts
pub mod Theorems

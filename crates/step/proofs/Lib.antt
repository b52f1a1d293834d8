pub mod Aside
pub mod Choices
pub mod Passed
pub mod Theorems

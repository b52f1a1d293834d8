pub mod Folds
pub mod Over
pub mod Framing
pub mod Theorems

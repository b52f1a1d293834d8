pub mod Picks
pub mod Theorems

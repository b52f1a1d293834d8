pub mod Laws
pub mod Ahead
pub mod Exact
pub mod Theorems

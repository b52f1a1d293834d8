mod Entries
pub mod Theorems
mod Times

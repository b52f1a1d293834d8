pub mod Feeds
pub mod Takes
pub mod Theorems

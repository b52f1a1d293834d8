pub mod Report
pub mod Texts
pub mod Told

pub mod Job
pub mod Ticks

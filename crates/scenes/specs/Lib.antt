pub mod Scene
pub mod Example
pub mod Table
pub mod Longest
pub mod Machine
pub mod StandIn
pub mod Wire
pub mod Modes

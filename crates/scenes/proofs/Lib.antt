pub mod Shown
pub mod Starred
pub mod Computed
pub mod Reach
pub mod Machine
pub mod StandIn
pub mod Wire
pub mod Modes

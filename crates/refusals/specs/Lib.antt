pub mod Pick
pub mod Refusals

pub mod Verb
pub mod Bytes
pub mod Lent
pub mod Ends

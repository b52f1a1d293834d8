pub mod Link
pub mod Out
pub mod Calls
pub mod InPlace
pub mod Answers
pub mod Promises

pub mod Order
pub mod Output
pub mod Table

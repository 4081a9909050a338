pub mod Numbered
pub mod Following
pub mod Booked
pub mod Exactly
pub mod Filled
pub mod Sames

pub mod Refused
pub mod Starred

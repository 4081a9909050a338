pub mod Closing
pub mod Members
pub mod Scoped
pub mod Ruling
pub mod Leading
pub mod Tabling
pub mod Allowing
pub mod Checking

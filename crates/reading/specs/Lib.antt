pub mod Scopes
pub mod Grants
pub mod Openers
pub mod Lows
pub mod Marks
pub mod Told

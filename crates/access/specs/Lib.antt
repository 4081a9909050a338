pub mod Faults
pub mod Places
pub mod Scopes
pub mod Tests
pub mod Demands
pub mod Allowed
pub mod Tabled
pub mod Checks

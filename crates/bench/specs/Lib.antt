pub mod Faults
pub mod Answers
pub mod Changes
pub mod Roles
pub mod States
pub mod Playing

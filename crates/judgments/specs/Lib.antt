pub mod Contexts
pub mod Substitutions
pub mod Typing
pub mod Rules
pub mod Predicates
pub mod Access
pub mod Theorems

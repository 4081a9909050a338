pub mod Data
pub mod Faults
pub mod Counts
pub mod Missing
pub mod Owners
pub mod Tables

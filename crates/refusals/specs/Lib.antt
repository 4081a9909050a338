pub mod Tables
pub mod Written
pub mod Walks
pub mod Decides
pub mod Demands
pub mod Faults

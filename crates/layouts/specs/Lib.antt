pub mod Meanings
pub mod Laws
pub mod Tables
pub mod Report
pub mod KeyServer
pub mod Codes
pub mod Tabled
pub mod Any

pub mod Words
pub mod Numbers
pub mod Lists
pub mod Types
pub mod Facts
pub mod Said
pub mod Commands
pub mod Lines

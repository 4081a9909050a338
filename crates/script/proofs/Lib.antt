pub mod Reading
pub mod Matching
pub mod Listing
pub mod Splitting
pub mod Silence

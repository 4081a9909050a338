pub mod Walking
pub mod Deciding
pub mod Demanding

pub mod Growing
pub mod Filled
pub mod Shapes
pub mod Lowest
pub mod Numbering
pub mod Granting
pub mod Closing

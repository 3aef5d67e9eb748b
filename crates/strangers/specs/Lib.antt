pub mod Sizes
pub mod Newest
pub mod Sorted
pub mod Drawers

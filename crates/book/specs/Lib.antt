pub mod Rows
pub mod Shelves
pub mod Lowest
pub mod Audits

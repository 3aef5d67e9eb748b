pub mod Agreed
pub mod Numbering

pub mod Numbers
pub mod Plain

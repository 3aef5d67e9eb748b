pub mod Read
pub mod Bottoms
pub mod Desks
pub mod Told

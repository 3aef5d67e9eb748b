mod Eights
mod Tails
pub mod Losing
pub mod Padded

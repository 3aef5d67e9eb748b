pub mod Both
pub mod Kept
pub mod Nonces
pub mod Order
pub mod Names
pub mod Sides
pub mod Spis

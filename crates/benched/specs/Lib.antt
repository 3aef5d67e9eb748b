pub mod Mixed
pub mod Messages
pub mod Nonces
pub mod Books
pub mod Moves
pub mod Plays

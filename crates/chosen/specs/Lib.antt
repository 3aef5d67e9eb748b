pub mod Books
pub mod Piles

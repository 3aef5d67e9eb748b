pub mod Slots
pub mod Shelved
pub mod Sorting
pub mod Seeking

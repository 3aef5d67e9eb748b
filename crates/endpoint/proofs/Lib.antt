pub mod Nonces
pub mod Calming
pub mod Checking
pub mod Hearing
pub mod Emptied

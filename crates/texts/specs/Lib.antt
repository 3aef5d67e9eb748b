pub mod Hex
pub mod Told
pub mod Messages
pub mod Ends
pub mod Ladders

pub mod Datagrams
pub mod Refusals
pub mod Stores
pub mod Fates
pub mod Bottoms
pub mod Traces
pub mod Holding
pub mod Sizes

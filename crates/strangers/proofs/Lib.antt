mod Changed
mod Lowest

pub mod Lanings

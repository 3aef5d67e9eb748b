pub mod Back
pub mod Carried
pub mod Exactly
pub mod Namings
pub mod Only
pub mod Openings
pub mod Placing
pub mod Worked

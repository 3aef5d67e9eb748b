mod Kept
pub mod Lookups
pub mod Firsts
pub mod Walks
pub mod Mirrors
pub mod Changes
pub mod Places
pub mod Audits

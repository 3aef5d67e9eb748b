pub mod Views
pub mod Reactions
pub mod Changes
pub mod Begun
pub mod Calming
pub mod Replies
pub mod Settlings
pub mod Questions

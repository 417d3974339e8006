pub mod Ids
pub mod Numbering
pub mod OneField
pub mod Outcome
pub mod Examples

pub mod Documents
pub mod Equality

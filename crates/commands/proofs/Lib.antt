pub mod Verbs
pub mod Read

pub mod Identity
pub mod Lookups
pub mod Firsts
pub mod Found
pub mod Repeats
pub mod Distinction

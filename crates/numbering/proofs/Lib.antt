pub mod Options
pub mod Elements
pub mod Highs
pub mod Laws
pub mod Steps
pub mod Outcomes
pub mod Examples
pub mod Hunts

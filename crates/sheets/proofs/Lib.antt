pub mod Codes
pub mod Fronts
pub mod Fills
pub mod Wholes
pub mod Walks

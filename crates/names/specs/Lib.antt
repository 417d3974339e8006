pub mod WellFormed
pub mod GoodName
pub mod NameRules
pub mod NameBytes
pub mod Placed

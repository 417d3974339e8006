pub mod Equality
pub mod Zeros
pub mod Fitting

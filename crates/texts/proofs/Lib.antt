pub mod Dropped
pub mod Numbers
pub mod Heads
pub mod Refusals
pub mod Only
pub mod Back
pub mod Shown

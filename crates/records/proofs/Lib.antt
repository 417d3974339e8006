pub mod Unique
pub mod Puts
pub mod Bodies
pub mod Records
pub mod Taken

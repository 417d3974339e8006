pub mod BindFaults
pub mod Binds
pub mod Backs

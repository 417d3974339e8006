pub mod Printed
pub mod Types
pub mod Results
pub mod Units
pub mod Orders
pub mod TableSpec
pub mod Documented

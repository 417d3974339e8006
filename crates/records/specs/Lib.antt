pub mod Format
pub mod RecordFaults
pub mod Written
pub mod SameRecord
pub mod Worked
pub mod Left

pub mod BigEndian
pub mod Octets

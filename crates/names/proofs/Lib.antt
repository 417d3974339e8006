pub mod Chars
pub mod Good

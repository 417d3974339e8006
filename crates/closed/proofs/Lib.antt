pub mod Same
pub mod Bares
pub mod Held
pub mod Closings
pub mod Asked
pub mod Opens
pub mod Typings

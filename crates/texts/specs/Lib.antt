pub mod Tells
pub mod Width
pub mod Words
pub mod Steps
pub mod Reading
pub mod Writing
pub mod Promises

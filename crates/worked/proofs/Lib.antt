mod Texts
mod Sorts

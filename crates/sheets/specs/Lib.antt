pub mod TypeCodes
pub mod Sheets
pub mod Decoded
pub mod SheetColumns
pub mod Standing

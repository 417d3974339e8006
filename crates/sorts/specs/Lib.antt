pub mod Zero
pub mod SortRules
pub mod Drafts
pub mod Promises
pub mod Equals

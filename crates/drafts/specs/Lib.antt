pub mod SourceRules
pub mod BoundAdds
pub mod Paper
pub mod Calls
pub mod Drafts
pub mod Taking
pub mod Laws
pub mod Closings

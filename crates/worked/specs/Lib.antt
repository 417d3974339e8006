pub mod TextExamples
pub mod SortExamples

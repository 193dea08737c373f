pub mod FoldingLemmas
pub mod SearchLemmas
pub mod NamesLemmas
pub mod CopyLemmas
mod Examples

pub mod VariableLemmas
pub mod NumberLemmas

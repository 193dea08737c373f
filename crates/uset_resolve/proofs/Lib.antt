pub mod DecimalLemmas
pub mod GroupLemmas
pub mod BoundedSources
pub mod MadeLemmas
mod Examples

pub mod BitLemmas
pub mod GroupLemmas
pub mod OrderLemmas
pub mod ReadLemmas
pub mod SubtagLemmas

pub mod ListLemmas
pub mod TermLemmas
pub mod StepsLemmas
pub mod PlacesLemmas
pub mod KeptLemmas
pub mod GatheringLemmas
pub mod NumberingLemmas

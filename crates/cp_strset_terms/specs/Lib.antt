pub mod Leaves
pub mod Places
pub mod Steps
pub mod Candidates
pub mod Cut
pub mod Numbers
pub mod NumberSets
pub mod LeafNumbers

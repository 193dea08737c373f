pub mod Folding
pub mod Names
pub mod Texts
pub mod ByNumber
pub mod ValueNames
pub mod Subtags
pub mod ValueNameTables

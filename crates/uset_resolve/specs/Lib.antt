pub mod Keys
pub mod Decimal
pub mod Resolution
pub mod Sources
pub mod Made
pub mod Laws

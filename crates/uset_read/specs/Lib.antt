pub mod Stops
pub mod Spelled
pub mod UnitRead
pub mod Cursors
pub mod Pieces
pub mod Names
pub mod Queries

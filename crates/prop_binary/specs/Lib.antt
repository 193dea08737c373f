pub mod Ecma262
pub mod Tables
pub mod Names

pub mod Normal
pub mod Names
pub mod KeptSites
pub mod NamingLaws
pub mod Ties

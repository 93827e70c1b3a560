pub mod Calls
pub mod Listings

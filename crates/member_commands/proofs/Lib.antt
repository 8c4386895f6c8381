pub mod Members
pub mod Offers
pub mod Narrowed

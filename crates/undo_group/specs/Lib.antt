pub mod Groups
pub mod Order
pub mod Stacks
pub mod Lending

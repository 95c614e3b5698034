pub mod Cards
pub mod Dealings
pub mod Examples
pub mod Factors
pub mod Multipliers
pub mod Refusals

pub mod Answers
pub mod Cards
pub mod Fields
pub mod Layout

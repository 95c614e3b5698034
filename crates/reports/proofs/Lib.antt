mod Cards
mod Openings
mod Said

mod Back
pub mod Numbers
pub mod OneWay
pub mod Orders
pub mod Requests

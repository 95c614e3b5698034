pub mod Report
pub mod Runs
pub mod Steps

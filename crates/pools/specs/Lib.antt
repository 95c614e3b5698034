pub mod Equations
pub mod Examples
pub mod Judging
pub mod Pools
pub mod Requests
pub mod Sessions
pub mod Stands
pub mod Verdicts

pub mod Solutions
pub mod Rows
pub mod Examples

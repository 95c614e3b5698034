mod Products
pub mod Worked

pub mod Firsts
pub mod Loading
pub mod Places
pub mod Rising
pub mod Rows
pub mod Searching
pub mod Steps
pub mod Worked

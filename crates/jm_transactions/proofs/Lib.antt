pub mod Found
pub mod Courses

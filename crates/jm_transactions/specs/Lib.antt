pub mod Transactions
pub mod Courses

pub mod Lists
pub mod Marks
pub mod Told
pub mod Histories
pub mod Text

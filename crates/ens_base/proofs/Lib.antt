pub mod Lists
pub mod Orders
pub mod Filling
pub mod Tests
pub mod Causes
pub mod ByteLists
pub mod Statuses

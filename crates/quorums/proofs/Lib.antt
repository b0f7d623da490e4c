pub mod Everyone
pub mod Majorities
pub mod Memberships
pub mod Sets

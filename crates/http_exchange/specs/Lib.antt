pub mod Exchanges
pub mod Fronts
pub mod Refusals
pub mod Requests
pub mod Runs

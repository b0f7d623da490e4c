pub mod ClusterRefusing
pub mod Standing
pub mod Taking
pub mod Splits
pub mod Refusals
pub mod Lines
pub mod Openings
pub mod Ids
pub mod EventsRead
pub mod Heading
pub mod ScriptsRead
pub mod Parts
pub mod Admissions
mod Numbered
mod RootRefusing
pub mod Scripts

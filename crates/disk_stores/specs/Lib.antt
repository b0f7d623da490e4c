pub mod Records
pub mod LogFiles
pub mod Logs
pub mod Recents
pub mod Scans
pub mod NodeMaps
pub mod DiskCalls

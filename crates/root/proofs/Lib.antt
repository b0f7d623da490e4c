mod Lists
pub mod Printing
mod Places
mod Running
mod Steps
mod Moves
mod Own
mod Views
mod Stories
pub mod Legal
mod Calls
mod Keys
mod Texts
mod Ends
pub mod Completing
pub mod ReplayJob

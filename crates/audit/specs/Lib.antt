pub mod Reports
pub mod Text
pub mod Lines
pub mod Reading
pub mod Endings
pub mod Printed

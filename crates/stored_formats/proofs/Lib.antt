pub mod ObjectLaws
pub mod ObjectFaults
pub mod FactLaws
pub mod FactFaults
pub mod SavedLaws
pub mod SavedFaults

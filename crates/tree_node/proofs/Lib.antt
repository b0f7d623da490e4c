pub mod RepeatLaws
pub mod TreeVersionLaws
pub mod PositionLaws
pub mod EntryLaws
pub mod NodeLaws
pub mod NodeFaults
pub mod WholeNodeFaults
pub mod Above

pub mod GoodPrefixes
pub mod Growth
pub mod LawfulChange
pub mod RecordLaws
pub mod Records

pub mod Streams
pub mod KeyTexts

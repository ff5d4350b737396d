pub mod Splitting
pub mod KeyReading
pub mod Taking

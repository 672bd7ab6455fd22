pub mod File
pub mod Building
pub mod Built

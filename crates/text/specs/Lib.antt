pub mod Number
pub mod FileName

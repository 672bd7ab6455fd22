pub mod Quantiser
pub mod MakeTables

pub mod Receiver
pub mod WellFormed
pub mod Opening

pub mod Reply
pub mod Refusal
pub mod Output
pub mod Checks

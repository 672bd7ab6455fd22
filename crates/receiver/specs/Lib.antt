pub mod Time
pub mod Picture
pub mod FirstPacket
pub mod Verdict
pub mod Step
pub mod Known

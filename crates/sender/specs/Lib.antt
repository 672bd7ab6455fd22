pub mod Picture
pub mod Fit
pub mod Packet
pub mod PacketBytes
pub mod Cuts
pub mod Sending
pub mod ReadBack
pub mod Sent

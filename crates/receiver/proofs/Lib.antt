pub mod Laws
pub mod Placing
pub mod Taking
pub mod Stepping

pub mod Keys
pub mod Places

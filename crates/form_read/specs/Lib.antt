pub mod Places
pub mod FormReading
pub mod There

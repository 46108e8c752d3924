pub mod Fits
pub mod Goes

pub mod Endings
pub mod Places
pub mod Runs
pub mod Texts

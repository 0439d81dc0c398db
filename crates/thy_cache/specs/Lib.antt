pub mod Modulus
pub mod Ways
pub mod Contents
pub mod Flat

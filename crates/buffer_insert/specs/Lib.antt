pub mod Laying
pub mod Tallies

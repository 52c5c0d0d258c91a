-- What the contracts name
pub mod Shown
pub mod Printer

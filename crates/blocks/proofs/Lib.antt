pub mod Law
pub mod Printed

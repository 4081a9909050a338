pub mod Exemplified

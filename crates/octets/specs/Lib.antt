pub mod Octets
pub mod Reader
pub mod Field
pub mod Numbers

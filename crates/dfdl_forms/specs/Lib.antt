pub mod Binary
pub mod BinaryNumbers
pub mod NumberForms
pub mod NumberRooms
pub mod Packed
pub mod Types

pub mod Grammar
pub mod Values
pub mod Rules
pub mod Machine
pub mod Trees
pub mod Documents
pub mod Building

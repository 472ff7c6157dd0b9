mod Ends
mod Fill
mod Leads
pub mod Over
mod Reach
mod Spans

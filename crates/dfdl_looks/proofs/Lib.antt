pub mod Seeing
pub mod Resumed
pub mod Stretches
pub mod Costs
pub mod Waiting
pub mod Stretched
pub mod Sequels
pub mod Shifted

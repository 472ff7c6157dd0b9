mod Runs
mod Routing
mod AsText
mod Grown
mod Ordered
mod Compiles

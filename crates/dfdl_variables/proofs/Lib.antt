mod Gathering
mod Ordered
mod Few

mod Gathered
mod Mapped
mod Zipped
mod Told

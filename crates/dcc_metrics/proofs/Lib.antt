mod Lines
mod Avps

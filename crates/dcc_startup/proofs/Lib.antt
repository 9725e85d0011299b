mod Listed
mod Moved

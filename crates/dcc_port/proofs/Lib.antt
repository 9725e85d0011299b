mod Ascii
mod LineLemmas
mod Copies
mod Listing
mod Results
mod Parts
mod Pieces
mod Chains

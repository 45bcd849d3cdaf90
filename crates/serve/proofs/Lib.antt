mod Frames
mod Going
mod Openings
mod Racks

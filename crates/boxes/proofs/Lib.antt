mod Corners
mod LaidRows

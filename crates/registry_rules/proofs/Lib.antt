mod Holes
mod Vertices

mod Plain
mod Lines

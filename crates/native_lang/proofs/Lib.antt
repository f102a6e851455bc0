mod Bits
mod Running

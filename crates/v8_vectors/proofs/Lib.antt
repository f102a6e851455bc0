mod Splits
mod Readings

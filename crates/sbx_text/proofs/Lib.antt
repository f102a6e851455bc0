mod Values
mod Scans
mod Fronts
mod Law

mod Moving
mod Owning

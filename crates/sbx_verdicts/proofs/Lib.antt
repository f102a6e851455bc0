mod Answered
mod OnEngine
mod Exits

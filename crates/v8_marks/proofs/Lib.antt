-- Why turns mark what they reach, and what the handlers of window traps mark.
--   Placing      an address of a mapped page has the entry of its number; a mark there
--   Moving       what the bus leaves of the entries; a load or a store
--   Turning      a fetch, an operation, a turn
--   Reaching     what a turn that ran told of its access
--   Handlers     entries in a row; a handler's turns
--   Users, Services      turns of user code, and its calls of services
--   Overflow, Underflow      the first and the last double word of the 64 bytes
pub mod Placing
pub mod Moving
pub mod Turning
pub mod Reaching
pub mod Handlers
pub mod Overflow
pub mod Underflow
pub mod Users
pub mod Services

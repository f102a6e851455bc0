pub mod WordBus

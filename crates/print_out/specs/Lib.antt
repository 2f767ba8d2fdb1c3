pub mod PrintOut

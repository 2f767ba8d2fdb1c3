pub mod ZeroIf

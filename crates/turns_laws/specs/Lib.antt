pub mod InTurns

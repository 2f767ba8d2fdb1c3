pub mod Replay

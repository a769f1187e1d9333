pub mod Positions
pub mod RunLists
pub mod Turns
pub mod Assembler
pub mod AssemblerLaws
pub mod Heads

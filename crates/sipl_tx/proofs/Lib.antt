pub mod Steps
pub mod RunLaws
pub mod TimerE
pub mod Timelines
pub mod Completed

pub mod StepLaws
pub mod LentReady

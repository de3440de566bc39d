pub mod LentStep

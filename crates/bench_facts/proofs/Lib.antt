pub mod Computing
pub mod BenchChecks

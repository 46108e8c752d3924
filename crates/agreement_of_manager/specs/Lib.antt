pub mod LayerRuns

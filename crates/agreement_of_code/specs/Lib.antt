pub mod CodeRuns

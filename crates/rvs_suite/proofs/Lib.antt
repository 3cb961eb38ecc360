mod Performing
mod Stopping
pub mod TestedRuns
mod Promises
pub mod Executables
mod RunReads
mod Passed
mod Signs
mod RunEnds
mod Standing
mod DatabaseExecutables
mod DatabasePasses
mod DatabaseReads
mod DatabaseEnds
mod ReportReads
mod ReportPasses
mod ReportEnds
mod KeptTrials
mod SparingTests
mod Trials

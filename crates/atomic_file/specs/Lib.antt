pub mod Log
pub mod Crashes
pub mod Moments
pub mod Runs
pub mod Accounts
pub mod WrongRuns

mod Numbers
mod Logs
mod Besides
mod Tries
mod Ends
mod Finishes
mod Noted
mod Refusals

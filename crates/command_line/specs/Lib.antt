pub mod Commands
pub mod Numbers
pub mod Table
pub mod Words

pub mod Daily
pub mod Guesses
pub mod Numbers
pub mod Order
pub mod Told
pub mod Within

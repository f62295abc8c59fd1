pub mod Laws
pub mod Loans
pub mod Slots

pub mod Canonical
pub mod Grammar
pub mod RoundTrip
pub mod Scanning
pub mod Spans

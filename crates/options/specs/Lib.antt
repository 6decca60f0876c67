pub mod Entries
pub mod Limits
pub mod Limiting
pub mod EntriesLemmas

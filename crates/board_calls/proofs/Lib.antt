pub mod NoParty

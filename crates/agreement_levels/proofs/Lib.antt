pub mod Chains
pub mod Alone
pub mod Histories
pub mod Unanimous
pub mod Reaches
pub mod Sizes
pub mod Laws
pub mod NoDeeper

pub mod Members
pub mod RangeLaws
pub mod Surveys

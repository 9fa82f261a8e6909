pub mod Registered
pub mod SiteSteps

pub mod NodeLimits

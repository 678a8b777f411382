-- What a field that was found tells.
pub mod Says

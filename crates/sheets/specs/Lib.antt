-- What the promises of this room speak of beside the text of a sheet.
pub mod Arguments

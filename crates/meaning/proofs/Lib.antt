-- What pins the definitions: the request's examples, cases at every boundary, and the laws of the addition.
pub mod Rows
pub mod Examples
pub mod Boundaries
pub mod Editions
pub mod Sheets
pub mod SheetTexts
pub mod Cards
pub mod Practising
pub mod Pooling
pub mod Addition
pub mod Groupings
pub mod Certificates

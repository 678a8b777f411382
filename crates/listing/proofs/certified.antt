-- What was worked out gives the certificate of the file.
pub mod Standing

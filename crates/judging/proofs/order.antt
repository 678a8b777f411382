-- A job's verdict, test by test.
pub mod Jobs

-- Jobs cut by their lengths; that taking them in one after another gives the definition's report; and what each step shows.
pub mod Cutting
pub mod Reporting
pub mod Steps

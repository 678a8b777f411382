-- The laws of the test over two tables, of the tables of a design, and of the judgement.
pub mod Judging
pub mod Tables

-- Inside: what functions promise each other on the way to a result. Nobody has to believe this file: the result is said without it.
-- Here: of the import and of the export, two files of which the same is true.
pub mod Importing
pub mod Exporting

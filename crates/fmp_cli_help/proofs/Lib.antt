pub mod Listed  -- The lists of the faults have each of them once, in the order of their numbers, and each is told where its number is asked for.
pub mod Unread  -- What is left out is no call, no statement and no fault's number, so that it is told as left out.
pub mod ReportWords  -- There is something to tell of each answer and each attribute.
pub mod ListedDeeds  -- The table of what the calls do has one row of each call, and no other row.

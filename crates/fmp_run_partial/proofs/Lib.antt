pub mod Lasts  -- The last line of a text.
pub mod NoEnds  -- A text that partly prints records does not say that it ends before its log.
pub mod Followed  -- Going over the lines of a partial trace, as the loop does.
pub mod PartlyPrinted  -- The verdict on a text that partly prints records.
pub mod Ordered  -- What the search for an order says of the lines of a text.
pub mod Played  -- The events that are played of lines.
pub mod Judged  -- The verdict on a text that may say that it ends before its log.
pub mod PartialTexts  -- The verdict on a partial trace that was read up to its limit is the verdict on its text.
pub mod Hunks  -- Each line that is not the machine's, as the loop adds them.
pub mod FilledReleases  -- The ends of waits from one on, as the loop puts in what is left out of them.

pub mod Sums  -- What a change of the stored numbers does to the sums.
pub mod Spots  -- The way to the spot, one item at a time.
pub mod Entries  -- The lists of entries_of after a change of one list of items.
pub mod Removing  -- An item is taken out, and the one after it gains what it has added.
pub mod Reading  -- What the walk along a list reads.
pub mod Expiring  -- The items in front that add nothing are those that are due.
pub mod Leaving  -- What was taken out is nowhere, and taking out what is nowhere changes nothing.
pub mod Found  -- What lists of entries say of an item: where it counts, and its ticks left.
pub mod Lefts  -- What each change of the lists does to what they say of an item.
pub mod Tables  -- Tables: a value for each item, at its place.
pub mod Effects  -- What each change of the lists of entries and of the waits shows.
pub mod Waits  -- The waits stay those that have ticks left.
pub mod Served  -- What is served, by marks.
pub mod Dues  -- Which items have no ticks left, over all lists.
pub mod Showing  -- Lists of entries that show the same.
pub mod Making  -- Timers that are made from the numbers that tell what they show.
pub mod Passing  -- Items that do not count tell nothing.

pub mod Bounds  -- Positions and ticks taken grow by one a step at most.
pub mod Closing  -- A step that makes the event of another with a mark.
pub mod Each  -- A test of the processors one after the other.
pub mod Going  -- What an event leads to.
pub mod Sighted  -- The lines of an event, as they are written.
pub mod Watching  -- What one knows who watches for what stays for ever.
pub mod Bitted  -- Bits of what is so, one after the other.
pub mod Padded  -- Lists of which all but the first numbers are 0, and what is told of such lists.
pub mod Keyed  -- Keys of places: each place has one, which is that of no other.
pub mod Said  -- What a key says of its place.
pub mod Weighed  -- How many places are left where one thing is not looked at.

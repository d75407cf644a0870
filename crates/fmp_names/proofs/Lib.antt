pub mod Defined  -- The defined names in a list.
pub mod Listed  -- Tests and counts of the names in lists.
pub mod Valid  -- One name more keeps what holds of all names.
pub mod Placed  -- A name's number and a number's name give each other back.
pub mod Same  -- What the comparison of lists says of their views.
pub mod Fronts  -- Pieces of names, while names are added.

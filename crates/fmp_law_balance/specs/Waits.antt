pub mod Meanings  -- What times, patterns and ticks mean, in words of the laws' own.
pub mod Asked  -- What a call asks for that can make its caller wait.
pub mod Waits  -- The wait of each task, as the records of a run tell it.
pub mod Releases  -- Which releases end which waits.
pub mod Laws  -- What the records of a run and its states say of waits.

pub mod Stayed  -- What a search for what stays for ever says, and what is written of it.
pub mod Asked  -- The faults of a question of what stays for ever.
pub mod Told  -- Which calls of the scripts are made, beside what stays.
pub mod Gone  -- How far a search for what stays went.

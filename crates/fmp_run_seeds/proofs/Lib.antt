mod Trying  -- What the run of one seed comes to, and those of many.
mod Printed  -- The lines of one record more.

mod Stepping  -- One token more.

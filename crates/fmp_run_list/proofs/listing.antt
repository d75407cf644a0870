mod Counted  -- One object or one function more.

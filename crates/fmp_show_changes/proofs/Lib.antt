mod Looking  -- One line less to look at.

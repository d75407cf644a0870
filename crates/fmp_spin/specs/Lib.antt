pub mod Locks  -- Spin locks as a list of their holders.

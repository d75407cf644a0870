pub mod Counted  -- The digits of one number more, where the last digit is no nine.
pub mod Stores  -- A store of 16 bytes of which the first count.
pub mod Room  -- Where there is room for a list's text, there is room for each part of it.

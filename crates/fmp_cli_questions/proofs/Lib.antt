pub mod EachLine  -- One line of a text of questions after the other.

pub mod Painting  -- Which words of a line of a trace have which colour.

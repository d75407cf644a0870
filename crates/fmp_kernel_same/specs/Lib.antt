pub mod Digests  -- What a digest is after a record of the machine was added.

pub mod Contents  -- What a data queue has after its oldest value is taken out.

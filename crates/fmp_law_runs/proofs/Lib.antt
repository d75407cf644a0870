mod Counted  -- How many ticks were taken, of which so many by each processor, before each record.
mod Ordered  -- A run by scripts is an order.
mod Seeded  -- Two runs by one seed are the same.

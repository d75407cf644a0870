pub mod Orders  -- The runs of seeds: processors take turns as a seed says, or a seed draws one of all orders.
pub mod Found  -- What the runs of seeds come to, where one is looked for.

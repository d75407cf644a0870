-- The blocks of a pool.
use Rattle.std.specs.Prelude.{ℤ, pos, negsuc, Bool, false, take, slice_index_or}
use Rattle.fmp_rules.specs.declared.machine.Pool.{Pool}

-- the number is that of a block that is handed out
abbrev pub is_handed : Pool → ℤ → Bool
is_handed m (pos b) = slice_index_or (take m.setup.blocks m.handed) b false
is_handed m (negsuc b) = false

use Rattle.fmp_run_wave.proofs.values.+put_bits.Given as goal

-- one bit less
abbrev pub decreases-put_bits : goal.decreases-put_bits
decreases-put_bits l = l.most

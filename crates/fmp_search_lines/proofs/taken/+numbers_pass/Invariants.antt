use Rattle.fmp_search_lines.proofs.taken.+numbers_pass.Given as goal

abbrev pub decreases-numbers_pass : goal.decreases-numbers_pass
decreases-numbers_pass l = l.more

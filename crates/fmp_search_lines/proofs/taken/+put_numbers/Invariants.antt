use Rattle.fmp_search_lines.proofs.taken.+put_numbers.Given as goal

abbrev pub decreases-put_numbers : goal.decreases-put_numbers
decreases-put_numbers l = l.more

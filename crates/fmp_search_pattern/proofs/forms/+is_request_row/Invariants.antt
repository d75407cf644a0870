use Rattle.std.proofs.Common.{length}
use Rattle.fmp_search_pattern.proofs.forms.+is_request_row.Given as goal

abbrev pub decreases-is_request_row : goal.decreases-is_request_row
decreases-is_request_row l = length l.left.now

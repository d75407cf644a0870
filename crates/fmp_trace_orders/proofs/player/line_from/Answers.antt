use Rattle.std.proofs.Common.{◌≡◌, ℕ, List, [], refl, sym, ap, ◌∙◌, arith}
use Rattle.std.proofs.lemmas.List.{drop_all}
use Rattle.fmp_bytes.specs.Bytes.{cut_at}
use Rattle.fmp_trace_orders.proofs.player.line_from.Goals as goal

-- past the end of a text there is nothing
cut_none : (cut_at 10 []).0 ≡ []
unfolding cut_at
cut_none = refl

pub returns-then-text-start : goal.returns-then-text-start
returns-then-text-start c = let none = drop_all c.args.start c.args.text.now (omega arith) in sym (ap (λ (text : List ℕ). (cut_at 10 text).0) none ∙ cut_none)

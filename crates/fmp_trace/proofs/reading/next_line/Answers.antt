use Rattle.std.proofs.Common.{◌≡◌, ◌+◌, ◌-◌, List, ℕ, length, take, drop, Option, Some, ap, sym, ◌∙◌, arith}
use Rattle.std.proofs.lemmas.List.{length-drop, take_all}
use Rattle.fmp_trace.proofs.FirstFeeds.{cut_found, cut_nowhere}
use Rattle.fmp_trace.proofs.reading.next_line.Goals as goal

pub returns-clause-line : goal.returns-clause-line
returns-clause-line c = ap (λ (p : List ℕ × Option (List ℕ)). p.0) (cut_found c.args.text.now c.in_ok-end.end (rw c.in_ok-end.was at c.memchr.ensures))

pub returns-clause-rest : goal.returns-clause-rest
returns-clause-rest c =
    let text = c.args.text.now in
    let end = c.in_ok-end.end in
    let tail : List ℕ = drop (end + 1) text in
    let whole : take (length text - (end + 1)) tail ≡ tail = take_all (length text - (end + 1)) tail (omega (arith, length-drop (end + 1) text)) in
    ap (λ (p : List ℕ × Option (List ℕ)). p.1) (cut_found text end (rw c.in_ok-end.was at c.memchr.ensures)) ∙ ap (λ (xs : List ℕ). Some xs) (sym whole)

pub returns-in_err-end-clause-none : goal.returns-in_err-end-clause-none
returns-in_err-end-clause-none c = rw c.from_residual.ensures (cut_nowhere c.args.text.now (rw c.in_err-end.was at c.memchr.ensures))

-- Going from line to line, as a loop does.
use Rattle.std.proofs.Common.{◌≡◌, ℕ, suc, List, Option, Some, None, refl, sym, ◌∙◌}
use Rattle.fmp_bytes.specs.Bytes.{cut_at}
use Rattle.fmp_cli_hints.specs.Contexts.{line_after}

pub goes_on : (a b : ℕ) (text rest : List ℕ) (total : Option (List ℕ × Option (List ℕ))) → a ≡ suc b → (cut_at 10 text).1 ≡ Some rest → line_after a text ≡ total → line_after b rest ≡ total
unfolding line_after
goes_on a b text rest total e more so_far =
    let one : line_after a text ≡ line_after b rest = rw (e, more) refl in
    sym one ∙ so_far

pub ends : (a b : ℕ) (text : List ℕ) (total : Option (List ℕ × Option (List ℕ))) → a ≡ suc b → (cut_at 10 text).1 ≡ None → line_after a text ≡ total → total ≡ None
unfolding line_after
ends a b text total e none so_far =
    let one : line_after a text ≡ None = rw (e, none) refl in
    sym so_far ∙ one

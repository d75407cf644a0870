use Rattle.std.proofs.Common.{◌-◌, ℕ, length, drop, sym, ap, ap₂, ◌∙◌, arith}
use Rattle.std.specs.Str.{bytes_eq}
use Rattle.fmp_trace_check.proofs.EightBytes.{end_same}
use Rattle.fmp_trace_check.proofs.same.is_same.Goals as goal

pub returns-then-has_same_words : goal.returns-then-has_same_words
returns-then-has_same_words c =
    let rest = c.has_same_words.ensures.rest c.if-has_same_words.true in
    let a = c.args.a.now in
    let b = c.args.b.now in
    c.is_same_word.ensures
    ∙ ap₂ bytes_eq c.in-Some-Some.ensures.cases.1.same c.in-Some-Some.ensures'.cases.1.same
    ∙ ap (λ (n : ℕ). bytes_eq (drop (length a - 8) a) (drop (n - 8) b)) (sym c.if-a-b.false)
    ∙ end_same (length a - 8) rest.0 a b (omega (arith, rest.1)) rest.2

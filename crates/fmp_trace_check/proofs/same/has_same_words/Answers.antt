use Rattle.std.proofs.Common.{◌≡◌, ◌+◌, ◌-◌, ℕ, List, Bool, true, false, ◌&&◌, length, length-drop, take, drop, sym, ap, ap₂, ◌∙◌, arith}
use Rattle.std.specs.Str.{bytes_eq}
use Rattle.std.proofs.lemmas.List.{drop-drop}
use Rattle.fmp_trace_check.proofs.EightBytes.{cut_same}
use Rattle.fmp_trace_check.proofs.same.has_same_words.Goals as goal

pub returns-then-not-is_same_word-clause-apart : goal.returns-then-not-is_same_word-clause-apart
returns-then-not-is_same_word-clause-apart c = λ wrong.
    let a = c.loop-word.a.now in
    let b = c.loop-word.b.now in
    let words : c.is_same_word.result ≡ bytes_eq (take 8 a) (take 8 b) = c.is_same_word.ensures ∙ ap₂ bytes_eq c.in-Some-Some.ensures.cases.0 c.in-Some-Some.ensures'.cases.0 in
    let other : bytes_eq (take 8 a) (take 8 b) ≡ false = sym words ∙ c.if-not-is_same_word.true in
    sym c.loop-word.invariant.same ∙ cut_same 8 a b ∙ ap (λ (t : Bool). t && bytes_eq (drop 8 a) (drop 8 b)) other

pub loop-word-preserved : goal.loop-word-preserved
loop-word-preserved c =
    let a = c.loop-word.a.now in
    let b = c.loop-word.b.now in
    let words : c.is_same_word.result ≡ bytes_eq (take 8 a) (take 8 b) = c.is_same_word.ensures ∙ ap₂ bytes_eq c.in-Some-Some.ensures.cases.0 c.in-Some-Some.ensures'.cases.0 in
    let same : bytes_eq (take 8 a) (take 8 b) ≡ true = sym words ∙ c.if-not-is_same_word.false in
    let before = c.loop-word.invariant.left in
    let len : List ℕ → ℕ = λ l. length l in
    record {
      same = ap₂ bytes_eq c.in-Some-Some.ensures.cases.1 c.in-Some-Some.ensures'.cases.1 ∙ sym (cut_same 8 a b ∙ ap (λ (t : Bool). t && bytes_eq (drop 8 a) (drop 8 b)) same) ∙ c.loop-word.invariant.same;
      left = (before.0 + 8, c.in-Some-Some.ensures.cases.1 ∙ ap (drop 8) before.1 ∙ drop-drop 8 before.0 c.args.a.now, c.in-Some-Some.ensures'.cases.1 ∙ ap (drop 8) before.2 ∙ drop-drop 8 before.0 c.args.b.now);
      long = ap len c.in-Some-Some.ensures.cases.1 ∙ length-drop 8 a ∙ ap (λ (n : ℕ). n - 8) c.loop-word.invariant.long ∙ sym (length-drop 8 b) ∙ sym (ap len c.in-Some-Some.ensures'.cases.1);
    }

pub loop-word-smaller : goal.loop-word-smaller
loop-word-smaller c = omega (arith, c.in-Some-Some.ensures.cases.2)

pub returns-in_default-clause-rest : goal.returns-in_default-clause-rest
returns-in_default-clause-rest c = λ _.
    let before = c.loop-word.invariant.left in
    let bytes = ap (λ (l : List ℕ). length l) before.1 in
    (before.0, omega (arith, c.in_default.ensures'.cases, c.loop-word.invariant.long, bytes, length-drop before.0 c.args.a.now), ap₂ bytes_eq (sym before.1) (sym before.2) ∙ c.loop-word.invariant.same)

pub returns-in_default-2-clause-rest : goal.returns-in_default-2-clause-rest
returns-in_default-2-clause-rest c = λ _.
    let before = c.loop-word.invariant.left in
    let bytes = ap (λ (l : List ℕ). length l) before.1 in
    (before.0, omega (arith, c.in_default.ensures.cases, bytes, length-drop before.0 c.args.a.now), ap₂ bytes_eq (sym before.1) (sym before.2) ∙ c.loop-word.invariant.same)

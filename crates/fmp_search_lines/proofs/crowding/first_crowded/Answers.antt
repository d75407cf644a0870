use Rattle.std.proofs.Common.{◌≡◌, ◌∙◌, List, refl, ℕ, ◌+◌, ◌<◌, ◌≤◌, [], ◌∷◌, ◌++◌, length, arith}
use Rattle.fmp_search_lines.specs.Crowds.{still_open}
use Rattle.fmp_search_lines.specs.Lasts.{last_at}
use Rattle.fmp_search_lines.proofs.Crowds.{none_kept, crowded, next_kept}
use Rattle.fmp_search_lines.proofs.crowding.first_crowded.Goals as goal

pub loop-line-init : goal.loop-line-init
loop-line-init c =
    let none = c.new-open.ensures in
    record { room = rw none (omega arith); kept = none_kept (last_at c.args.lasts.now) _ none }

-- the lines that are left, where they were added to none
are_left : (last : ℕ → ℕ) (j : ℕ) (none are lines left : List ℕ) →
    left ≡ none ++ still_open last j lines → none ≡ [] → lines ≡ are → left ≡ still_open last j are
are_left last j none are lines left is e f = is ∙ rw (e, f) refl

pub returns-then-len-gt-MOST_PENDING : goal.returns-then-len-gt-MOST_PENDING
returns-then-len-gt-MOST_PENDING c =
    let left = c.put_open.new.left.items in
    let is = are_left (last_at c.args.lasts.now) c.loop-line.line _ c.loop-line.open.items _ left c.put_open.ensures c.new-left.ensures
    c.as_slice.ensures.value in
    let value : c.len.result ≡ length left = c.len.ensures.value in
    let fits : c.len.result ≤ 17 = c.len.ensures.fits in
    let long : 16 < c.len.result = c.if-len-gt-MOST_PENDING.true in
    crowded (last_at c.args.lasts.now) c.loop-line.line c.loop-line.open.items left c.loop-line.invariant.kept is (length c.args.lasts.now)
    c.loop-line-test.true (omega (arith, value, fits, long))

pub loop-line-preserved : goal.loop-line-preserved
loop-line-preserved c =
    let left = c.put_open.new.left.items in
    let is = are_left (last_at c.args.lasts.now) c.loop-line.line _ c.loop-line.open.items _ left c.put_open.ensures c.new-left.ensures
    c.as_slice.ensures.value in
    let value : c.len.result ≡ length left = c.len.ensures.value in
    let short : c.len.result ≤ 16 = c.if-len-gt-MOST_PENDING.false in
    let items : c.push.new.self.items ≡ left ++ c.loop-line.line ∷ [] = c.push.ensures.items in
    let many : length c.push.new.self.items ≡ length left + 1 = c.push.ensures.len in
    record {
      room = omega (arith, value, short, many);
      kept = rw items (next_kept (last_at c.args.lasts.now) c.loop-line.line c.loop-line.open.items left c.loop-line.invariant.kept is
          (omega (arith, value, short)));
    }

pub returns : goal.returns
returns c =
    let over = c.loop-line-test.false in
    λ j lines under those. c.loop-line.invariant.kept.few j lines (omega (arith, under, over)) those

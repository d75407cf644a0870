use Rattle.std.proofs.Common.{◌-◌, ◌<◌, ℕ, length, map, take, drop, get_or, ap, arith, length-append, length-drop}
use Rattle.std.proofs.lemmas.List.{get_or_default, length-map, length-take-le}
use Rattle.std.proofs.lemmas.List.Edits.{map_over_more}
use Rattle.fmp_search_kernel.proofs.ticks.take_one.Goals as goal

pub loop-count-preserved : goal.loop-count-preserved
loop-count-preserved c =
    let old = c.args.taken.now in
    let now = c.loop-count.taken in
    let i : ℕ = c.loop-count.count-index in
    let within : i < length old = omega arith in
    let changed = ap length c.loop-count.invariant in
    let parts = length-append (map (λ n. n - 1) (take i old)) (drop i old) in
    let front = length-map (take i old) (λ n. n - 1) in
    let taken = length-take-le i old (omega (arith, within)) in
    let rest = length-drop i old in
    let here : i < length now = omega (arith, changed, parts, front, taken, rest, within) in
    rw c.one_less.ensures (map_over_more (λ n. n - 1) old now i (get_or now i 0) within c.loop-count.invariant (get_or_default now i 0 (get_or now i 0) here))

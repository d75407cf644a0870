use Rattle.std.proofs.Common.{◌≡◌, ◌++◌, ◌+◌, eqb, false}
use Rattle.std.specs.Prelude.{codes, decimal}
use Rattle.std.proofs.lemmas.Bool.{ne_eqb}
use Rattle.fmp_out.proofs.Puts.{both}
use Rattle.fmp_cli_notes.specs.Unshown.{more_steps, no_step, one_step}
use Rattle.fmp_cli_notes.proofs.unshown.put_steps.Goals as goal

pub returns-then-come-eq0 : goal.returns-then-come-eq0
unfolding no_step
returns-then-come-eq0 c = rw c.if-come-eq0.true (both (codes "no order has step 1 of ") (decimal c.args.count) c.args.line.now c.put.new.self c.put_number.new.self c.put.ensures c.put_number.ensures)

pub returns-then-come-eq1 : goal.returns-then-come-eq1
unfolding one_step
returns-then-come-eq1 c =
    let words = codes "some order has step 1 of " in
    let number = decimal c.args.count in
    let old = c.args.line.now in
    let counted = both words number old c.put-then-come-eq1.new.self c.put_number-then-come-eq1.new.self c.put-then-come-eq1.ensures c.put_number-then-come-eq1.ensures in
    rw c.if-come-eq1.true (both (words ++ number) (codes ", and none has step 2 after it") old c.put_number-then-come-eq1.new.self c.put-then-come-eq1-2.new.self counted c.put-then-come-eq1-2.ensures)

pub returns-else-come-eq1 : goal.returns-else-come-eq1
unfolding more_steps
returns-else-come-eq1 c =
    let first = codes "some order has steps 1 to " in
    let come = decimal c.args.come in
    let of = codes " of " in
    let count = decimal c.args.count in
    let none = codes ", and none has step " in
    let next = decimal (c.args.come + 1) in
    let old = c.args.line.now in
    let two = both first come old c.put-else-come-eq1.new.self c.put_number-else-come-eq1.new.self c.put-else-come-eq1.ensures c.put_number-else-come-eq1.ensures in
    let three = both (first ++ come) of old c.put_number-else-come-eq1.new.self c.put-else-come-eq1-2.new.self two c.put-else-come-eq1-2.ensures in
    let four = both (first ++ come ++ of) count old c.put-else-come-eq1-2.new.self c.put_number-else-come-eq1-2.new.self three c.put_number-else-come-eq1-2.ensures in
    let five = both (first ++ come ++ of ++ count) none old c.put_number-else-come-eq1-2.new.self c.put-else-come-eq1-3.new.self four c.put-else-come-eq1-3.ensures in
    let six = both (first ++ come ++ of ++ count ++ none) next old c.put-else-come-eq1-3.new.self c.put_number-else-come-eq1-3.new.self five c.put_number-else-come-eq1-3.ensures in
    let other : eqb c.args.come 0 ≡ false = ne_eqb c.args.come 0 c.if-come-eq0.false in
    let more : eqb c.args.come 1 ≡ false = ne_eqb c.args.come 1 c.if-come-eq1.false in
    rw (other, more) (both (first ++ come ++ of ++ count ++ none ++ next) (codes " after them") old c.put_number-else-come-eq1-3.new.self c.put-else-come-eq1-4.new.self six c.put-else-come-eq1-4.ensures)

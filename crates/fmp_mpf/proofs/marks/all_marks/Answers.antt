use Rattle.std.proofs.Common.{◌∙◌, ◌<◌, ◌≤◌, Bool, length, set, get_or, false, sym, arith}
use Rattle.std.proofs.lemmas.List.{length-set, take_all, take_more_same, get_or-set_same, take-set}
use Rattle.fmp_mpf.specs.Marks.{marks}
use Rattle.fmp_mpf.proofs.Bits.{length-marks}
use Rattle.fmp_mpf.proofs.marks.all_marks.Goals as goal

-- one more mark at its place
pub loop-block-preserved : goal.loop-block-preserved
loop-block-preserved c =
    let all = c.loop-block.all in
    let word = c.args.word in
    let block = c.loop-block.block in
    let one : Bool = get_or (marks word) block false in
    let here : block < length all = omega (arith, c.loop-block-test.true, c.loop-block.invariant.room) in
    let there : block < length (marks word) = let l = length-marks word in omega (arith, c.loop-block-test.true, l) in
    let still : block < length (set all block one) = rw (length-set all block one) here in
    rw (c.from.ensures, c.is_marked.ensures.value)
    record {
      so_far = take_more_same (set all block one) (marks word) block false still there (take-set all block one ∙ c.loop-block.invariant.so_far) (get_or-set_same all block one false here);
      room = length-set all block one ∙ c.loop-block.invariant.room;
    }

pub returns : goal.returns
returns c =
    let all = c.loop-block.all in
    let word = c.args.word in
    let room = length-marks word in
    let past : 64 ≤ c.loop-block.block = c.loop-block-test.false in
    sym (take_all c.loop-block.block all (omega (arith, past, c.loop-block.invariant.room))) ∙ c.loop-block.invariant.so_far ∙ take_all c.loop-block.block (marks word) (omega (arith, past, room))

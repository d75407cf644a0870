use Rattle.std.proofs.Common.{◌∙◌, inl, arith, sym, refl}
use Rattle.std.proofs.lemmas.Grind.{common_steps}
use Rattle.std.proofs.lemmas.Bool.{lt-ltb}
use Rattle.fmp_bytes.proofs.Cutting.{take-to_end}
use Rattle.fmp_text_scripts.specs.Texts.{scripts_in}
use Rattle.fmp_text_scripts.proofs.Read.{judged, line_found, fault_found, text_ends, text_cut, reads_same}
use Rattle.fmp_text_scripts.proofs.Kept.{result_fits}
use Rattle.fmp_text_scripts.proofs.reader.read_scripts.Goals as goal

pub returns-then-text-gt-MOST_BYTES : goal.returns-then-text-gt-MOST_BYTES
unfolding scripts_in
returns-then-text-gt-MOST_BYTES c = record { exact = inl (rw (lt-ltb _ _ c.if-text-gt-MOST_BYTES.true) refl); in_bits = tt }

pub returns-in-Err : goal.returns-in-Err
returns-in-Err c = record {
  exact = fault_found c.args.names.now c.args.text.now _ _ c.loop-end.lines c.loop-end.used c.in-Some.end c.loop-end.reader
      (grind (arith, common_steps)) (grind (arith, common_steps)) (rw c.in-Some.is at c.memchr.ensures) _
      (judged c.args.names.now c.args.text.now (omega arith) ∙ c.loop-end.invariant.reading) c.in-Err.fault c.in-Err.ensures;
  in_bits = tt;
}

pub loop-end-preserved : goal.loop-end-preserved
loop-end-preserved c = record {
  within = grind (arith, common_steps);
  lines = grind (arith, common_steps);
  reading = line_found c.args.names.now c.args.text.now _ _ c.loop-end.lines c.loop-end.used c.in-Some.end c.loop-end.reader
      (grind (arith, common_steps)) (grind (arith, common_steps)) (rw c.in-Some.is at c.memchr.ensures) _
      c.loop-end.invariant.reading _ c.in_default-read_line.ensures;
}

pub returns-then-is_skipped : goal.returns-then-is_skipped
returns-then-is_skipped c =
    let ended = judged c.args.names.now c.args.text.now (omega arith)
    ∙ text_ends c.args.names.now c.args.text.now _ c.loop-end.lines c.loop-end.used c.loop-end.reader (take-to_end c.args.text.now c.loop-end.used) (rw c.in_default.is at c.memchr.ensures) _
    c.loop-end.invariant.reading (sym c.is_skipped.ensures ∙ c.if-is_skipped.true) in
    record { exact = reads_same _ _ (ended ∙ sym c.finish.ensures); in_bits = result_fits _ _ _ c.validity.ensures (ended ∙ sym c.finish.ensures) }

pub returns-else-is_skipped : goal.returns-else-is_skipped
returns-else-is_skipped c =
    record {
      exact = inl (judged c.args.names.now c.args.text.now (omega arith)
          ∙ text_cut c.args.names.now c.args.text.now _ c.loop-end.lines c.loop-end.used c.loop-end.reader (take-to_end c.args.text.now c.loop-end.used) (rw c.in_default.is at c.memchr.ensures) _
          c.loop-end.invariant.reading (sym c.is_skipped.ensures ∙ c.if-is_skipped.false));
      in_bits = tt;
    }

use Rattle.std.proofs.Common.{◌≡◌, ℕ, ◌+◌, ◌*◌, ◌++◌, List, append_assoc, ap, sym, ◌∙◌, arith}
use Rattle.std.specs.List.{flat_map, range_with_len}
use Rattle.std.proofs.lemmas.Grind.{flat_map-append}
use Rattle.fmp_time.specs.Words.{words_at, handler_places}
use Rattle.fmp_time.proofs.Passing.{range_apart}
use Rattle.fmp_time.proofs.timers.Timers.add_handlers.Goals as goal

pub loop-group-preserved : goal.loop-group-preserved
loop-group-preserved c =
    let f = words_at c.args.self.now in
    let before = c.args.words.now in
    let n = 8 * c.loop-group.group in
    let next : 8 * (c.loop-group.group + 1) ≡ 8 * c.loop-group.group + 8 = omega arith in
    let told = range_with_len 64 n in
    let more = range_with_len (64 + n) 8 in
    record {
      words = c.in_ok-add_eight.ensures ∙ ap (λ (ws : List ℕ). ws ++ flat_map f more) c.loop-group.invariant.words
          ∙ append_assoc before (flat_map f told) (flat_map f more)
          ∙ ap (λ (ws : List ℕ). before ++ ws) (sym (flat_map-append f told more))
          ∙ ap (λ (ks : List ℕ). before ++ flat_map f ks) (sym (ap (range_with_len 64) next ∙ range_apart 64 n 8));
    }

pub returns : goal.returns
unfolding handler_places
returns c =
    let end : c.loop-group.group ≡ 8 = omega arith in
    c.loop-group.invariant.words ∙ ap (λ (n : ℕ). c.args.words.now ++ flat_map (words_at c.args.self.now) (range_with_len 64 (8 * n))) end

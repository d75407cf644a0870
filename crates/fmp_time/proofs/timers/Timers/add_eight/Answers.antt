use Rattle.std.proofs.Common.{ℕ, ◌+◌, ◌++◌, List, ap, sym, ◌∙◌}
use Rattle.std.specs.List.{flat_map, range_with_len}
use Rattle.std.proofs.lemmas.List.{append-nil, flat_map_more}
use Rattle.fmp_time.specs.Times.{Times}
use Rattle.fmp_time.specs.Words.{words_at}
use Rattle.fmp_time.proofs.Passing.{none_told, range_next}
use Rattle.fmp_time.proofs.timers.Timers.add_eight.Goals as goal

pub returns-then-not-has_any : goal.returns-then-not-has_any
returns-then-not-has_any c =
    let before = c.args.words.now in
    let none = none_told c.self.inside.differences c.self.inside.waits c.args.first 8 c.requires (sym c.has_any.ensures ∙ c.if-not-has_any.true) in
    sym (append-nil before)
    ∙ ap (λ (ws : List ℕ). before ++ ws) (sym none ∙ ap (λ (m : Times). flat_map (words_at m) (range_with_len c.args.first 8)) c.self.view_is)

pub loop-at-preserved : goal.loop-at-preserved
loop-at-preserved c =
    let f = words_at c.args.self.now in
    let before = c.args.words.now in
    let k = c.args.first + c.loop-at.at in
    record {
      words = c.in_ok-add_item.ensures ∙ ap (λ (ws : List ℕ). ws ++ f k) c.loop-at.invariant.words
          ∙ flat_map_more f before (range_with_len c.args.first c.loop-at.at) k
          ∙ ap (λ (ks : List ℕ). before ++ flat_map f ks) (sym (range_next c.args.first c.loop-at.at));
    }

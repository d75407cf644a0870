use Rattle.std.proofs.Common.{List, [], ◌∷◌, ◌++◌, ◌<◌, length, ap, ◌∙◌, arith, rules}
use Rattle.fmp_codes.specs.declared.records.Runner.{Runner}
use Rattle.fmp_dispatch.proofs.Window.{length-window, window_after_push}
use Rattle.fmp_dispatch.proofs.due.Due.add.Goals as goal

-- the handler is written after the last one, since there is room
pub returns : goal.returns
returns c =
    let q = c.self.inside in
    let length_old = length-window 64 _ _ q.slots c.self.invariant.0 c.self.invariant.1 (search rules) in
    let same_length = ap length c.self.view_is in
    let has_room : q.len < 64 = omega arith in
    window_after_push 64 _ _ q.slots c.self.invariant.0 c.self.invariant.1 (search rules) c.args.handler has_room
    ∙ ap (λ (xs : List Runner). xs ++ c.args.handler ∷ []) c.self.view_is

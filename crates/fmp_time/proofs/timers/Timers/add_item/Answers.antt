use Rattle.std.proofs.Common.{◌≡◌, ◌++◌, Option, None, subst, sym, ap, ◌∙◌}
use Rattle.std.specs.Prelude.{slice_index_or, IfOk}
use Rattle.fmp_time.specs.Left.{Left, left_in}
use Rattle.fmp_time.specs.Times.{Times}
use Rattle.fmp_time.specs.Words.{left_words}
use Rattle.fmp_time.proofs.Tables.{at-table}
use Rattle.fmp_time.proofs.timers.Timers.add_item.Goals as goal

pub returns : goal.returns
returns c =
    subst (λ (o : Option Left). IfOk c.add_left.result (λ done. c.add_left.new.words ≡ c.args.words.now ++ left_words c.args.place o))
    (sym c.at.ensures.left ∙ sym (at-table (left_in c.self.inside.differences) c.args.place None c.requires) ∙ ap (λ (m : Times). slice_index_or m.left c.args.place None) c.self.view_is)
    c.add_left.ensures

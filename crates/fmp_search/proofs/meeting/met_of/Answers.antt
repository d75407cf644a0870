use Rattle.std.proofs.Common.{◌≡◌, ◌+◌, ℕ, None, length, refl, sym}
use Rattle.fmp_search.specs.declared.chart.Chart.{Chart}
use Rattle.fmp_search.specs.declared.layer.Layer.{Layer}
use Rattle.fmp_search.specs.declared.layer.Layer.TheVariants as layer
use Rattle.fmp_search.specs.Surveys.{met_by}
use Rattle.fmp_search.proofs.meeting.met_of.Goals as goal

-- nothing is told where steps were not all tried
none_by : (chart : Chart) (places : ℕ) (how : Layer) → (how ≡ layer.Done → ⊥) → met_by how chart places ≡ None
none_by chart places (layer.Found steps) not = refl
none_by chart places layer.Full not = refl
none_by chart places layer.Wanting not = refl
none_by chart places layer.Over not = refl
none_by chart places layer.Done not = absurd (not refl)

pub returns-clause-met : goal.returns-clause-met
returns-clause-met c = let s = c.args.survey in sym (none_by s.chart (length s.nodes.items + 1) s.how c.in_default.not-Done)

-- A history goes on by the bytes that pass. Assumes `Logic`.
use Rattle.std.proofs.Common.{[], ◌∷◌, ◌++◌, refl}
use Rattle.std.proofs.raw_atomic.Walks.{proved}
use types.Kit.{‵, raw, ◌⊛◌, ◌$◌, ◌∵◌, !, qed, keep, move, split, fjoin, suffices, done}
use types.Part.{agg}
use types.Run.{enter, returns, no_more}
use types.ByLocal.{alloc_all, pass_all, free_all, look_at, sets}
use denote.Builtin.{RefOf}
use denote.Exit.{yes}
use denote.Ref.{shr_vals}
use denote.RattleType.{owns}
use denote.Signature.{plain, named_lft, types_at}
use denote.Steps.{nothing}
use denote.Triple.Entry.{Vals, alive}
use denote.Triple.Walked.{says, Stays, stay_dropped, Goes-dropped, walk_of, ends_at}
use Rattle.fmp_run_devices.proofs.Bare.{bare, owns_nothing}
use Rattle.fmp_run_devices.specs.contracts.history.History as History
use Rattle.fmp_run_devices.specs.contracts.history.Passing as Passing
use Rattle.fmp_run_devices.specs.contracts.history.History.with as f
use Rattle.fmp_run_devices.proofs.history.History.with.Statement.{statement}
use Rattle.fmp_run_devices.proofs.history.History.with.Code as code

abbrev stayed : Stays f.ended.signature.params f.ended.kept
stayed = (stay_dropped _ yes, (stay_dropped _ yes, tt))

pub with_spec : {M : Type 1} → statement M
with_spec 𝓤 𝓛 𝓜 𝓡 wired =
    let c = f.clauses 𝓛 𝓜.mem 𝓡.returns in let W = walk_of 𝓛 f.ended stayed c in
    let before = Goes-dropped 𝓛 3 (RefOf (0 ∷ []) tt (plain (λ _. History.the_row)) (λ _. tt)) yes (λ κs x w. refl) in
    let passing = Goes-dropped 𝓛 3 (RefOf (1 ∷ []) tt (plain (λ κs. Passing.the_row (named_lft 3 2 tt κs))) (λ _. tt)) yes (λ κs x w. refl) in
    proved 𝓛 f.ended stayed c 𝓜 𝓡 (before, (passing, tt)) f.Key.name code.function (code.unfolded 𝓤 𝓛.H 𝓜 𝓡 wired)
    (λ κs. (shr_vals, (shr_vals, tt))) (λ κs. ((λ x vs p. p.0), ((λ x vs p. p.0), tt))) (λ κs qs bounds a g are.
    let vss : Vals f.signature κs = (shr_vals a.0, (shr_vals a.1.0, tt)) in
    let y : W.Ghost = ((κs, qs, bounds, a, vss), g) in
    let made : (History.the_row).Denot = record { bytes = a.0.now.bytes ++ a.1.0.now.bytes.now } in
    qed 𝓛 ((raw (alive 𝓛 f.signature κs qs) ⊛ ‵ (owns (types_at f.signature.params κs) a vss)) ∷ raw ((c κs a).requires g) ∷ []) ∵ keep ! (0 ∷ []) $ split ! $ keep ! (0 ∷ []) $
    enter ! _ _ _ _ _ $ alloc_all ! (λ l. pass_all ! refl ((tt, tt), ((tt, tt), tt)) $
    sets ! (agg ! (no_more !)) refl (tt, tt) $
    nothing ! $ owns_nothing ! $ fjoin ! $
    returns ! (look_at ! 0 refl) $ free_all ! refl $
    suffices ! _ (ends_at 𝓛 f.ended stayed c y bare made (tt, (tt, tt)) (tt, (tt, tt))) $ says ! refl $
    nothing ! $ nothing ! $ fjoin ! $ nothing ! $ fjoin ! $ move ! (2 ∷ 0 ∷ 1 ∷ []) $ done !))

-- `filled` writes the box into the block, and keeps where the block is.
use Rattle.std.proofs.Common.{List, [], ◌∷◌, ◌++◌, refl, sym, subst}
use Rattle.std.specs.Prelude.{Some}
use mir.Syntax.{Ty}
use mir.Val.{Val}
use base.Fraction.{full_share}
use base.Logic.{SProp, ent, id⊢}
use base.Fml.{ftrue, fsep, feq}
use prog.Wp.{WpFn}
use borrow.Table.OneValue.{part_in}
use contract.Running.{tables}
use types.Kit.{‵, ◌⊛◌, at_ret, ◌$◌, ◌∵◌, !, qed, move, keep, drop, split, join, fsplit3, fjoin, feq_i, fpack, suffices, use2, done}
use types.Run.{init, stop, fld, of_opd, no_more, and_then, assigns_last, first, blocks, exec, returns, enter}
use types.ByLocal.{alloc_all, pass_all, free_all, look_at, get, get_in, through, sets, env}
use types.Part.{agg, sub, whole}
use denote.Exit.{yes}
use denote.Memory.{lone, part_at}
use denote.RattleType.{owns}
use denote.RawPtr.{block_ptr}
use denote.Signature.{plain, types_at}
use denote.Steps.{nothing}
use denote.Triple.Walked.{Stays, stay_dropped, walk_of, says, Goes-dropped, ends_at}
use Rattle.std.proofs.raw_atomic.Walks.{proved_at}
use Rattle.std_alloc.proofs.OfVacant.{Vacant, Vacant-had, vacant_val, vacant_typed}
use Rattle.std_alloc.proofs.RawLayout.{as_written}
use Rattle.std_alloc.proofs.VecSteps.Shapes.{after}
use Rattle.std_alloc.specs.Box.Ownership.{box_owns}
use Rattle.fmp_session.specs.declared.session.Session.{Session}
use Rattle.fmp_c.specs.Owned.{Boxed, boxed, freeing}
use Rattle.fmp_c.proofs.Words.{allocator, word, handle_in, box_tells}
use Rattle.fmp_c.specs.contracts.handle.Handle.filled as f
use Rattle.fmp_c.proofs.handle.Handle.filled.Statement.{statement}
use Rattle.fmp_c.proofs.handle.Handle.filled.Code as code

abbrev τ : Ty
τ = lone boxed.mir

abbrev stayed : Stays f.ended.signature.params f.ended.kept
stayed = (stay_dropped _ yes, (stay_dropped _ yes, tt))

pub filled_spec : {M : Type 1} → statement M
filled_spec 𝓤 𝓛 𝓜 𝓡 wired =
    let 𝓣 = tables 𝓤 𝓛.H 𝓜 𝓡 𝓡.env in let c = f.clauses 𝓛 𝓜.mem 𝓡.returns in
    proved_at 𝓛 f.ended stayed c 𝓜 𝓡 (
      Goes-dropped 𝓛 0 (plain (λ _. Vacant allocator boxed)) yes (λ κs x w. refl),
      (Goes-dropped 𝓛 0 (plain (λ _. boxed)) yes (λ κs x w. refl), tt),
    )
    f.Key.name code.function (code.unfolded 𝓤 𝓛.H 𝓜 𝓡 wired) (λ y are.
    let block = y.0.3.0 in let s = y.0.3.1.0 in let Post : Val → SProp 𝓤 = (walk_of 𝓛 f.ended stayed c).post y in
    let Runs : List Val → SProp 𝓤 = λ ws. WpFn 𝓤 𝓛.H 𝓣.C 𝓣.Λ code.function ws Post in
    qed 𝓛 ((‵ ftrue ⊛ ‵ (owns (types_at f.signature.params y.0.0) y.0.3 y.0.4)) ∷ ‵ ftrue ∷ []) ∵ split ! $ drop ! $ fsplit3 ! $
    Vacant-had allocator boxed ! block y.0.4.0 (λ b o h _ at_block fits. move ! (3 ∷ []) $ box_tells ! s y.0.4.1.0 (λ v at_box good.
    suffices ! (Runs (vacant_val h b o ∷ v ∷ []))
    (subst (λ (ws : List Val × List Val). ent 𝓤 (Runs (vacant_val h b o ∷ v ∷ [])) (Runs (ws.0 ++ (ws.1 ++ [])))) (λ i. (sym at_block i, sym at_box i)) (id⊢ 𝓤 _)) $
    -- [the room; the box; the right to free the block]
    keep ! (1 ∷ 0 ∷ 2 ∷ []) $ as_written ! τ b o $
    enter ! _ _ _ _ _ $ alloc_all ! (λ l. pass_all ! refl (vacant_typed allocator boxed h b o fits, (good, tt)) $
    sets ! (of_opd ! (get_in ! (fld ! refl (stop !)) (sub ! 0 refl (whole !)))) refl (tt, tt) $
    first ! $ blocks ! $ sets ! (of_opd ! (get ! refl)) refl good $ assigns_last ! (of_opd ! (get ! refl)) (through ! refl (stop !)) (init ! 0 refl good) $
    exec ! 𝓣.C 𝓣.Λ (env code.Mir.locals l) (after 2 (code.function).body) (at_ret _ Post) $
    sets ! (of_opd ! (get ! refl)) refl (tt, tt) $ sets ! (agg ! (and_then ! (get ! refl) (no_more !))) refl (tt, (tt, tt)) $
    returns ! (look_at ! 0 refl) $ free_all ! refl $
    use2 𝓛 (‵ (part_at boxed full_share s b o)) (part_in 𝓛 boxed refl full_share s b o v) $ fjoin ! $
    feq_i ! Session s.value s.value refl $ fjoin ! $ fpack ! Boxed (λ x. fsep (feq Session x.value s.value) (box_owns freeing boxed (block_ptr b o) x)) s $
    suffices ! _ (ends_at 𝓛 f.ended stayed c y (word (block_ptr b o)) (record { at = block_ptr b o; held = Some s.value }) (tt, (tt, tt)) (tt, (tt, tt))) $ says ! refl $
    handle_in ! (block_ptr b o) (Some s.value) $ nothing ! $ nothing ! $ join ! $ nothing ! $ join ! $ nothing ! $ done !))))

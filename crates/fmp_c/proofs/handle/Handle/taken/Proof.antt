-- `taken` reads the box out, and leaves the block with no value.
use Rattle.std.proofs.Common.{◌≡◌, List, [], ◌∷◌, ◌++◌, refl, sym, ap, ◌∙◌, subst}
use Rattle.std.proofs.lemmas.Bool.{false≢true}
use Rattle.std.specs.Prelude.{Option, None, Some, IsTrue, is_some}
use mir.Raw.{raw as bare}
use mir.Syntax.{Ty}
use mir.Val.{Val}
use base.Fraction.{full_share}
use base.Logic.{SProp, ent, id⊢, never, fst∗}
use base.Fml.{ftrue, fat, froom}
use prog.Wp.{WpFn}
use borrow.Table.OneValue.{part_out}
use contract.Monad.{fact}
use contract.Running.{tables}
use types.Logic.{sem}
use types.Kit.{‵, raw, ◌⊛◌, some, at_ret, ◌$◌, ◌∵◌, !, qed, move, keep, drop, split, join, fsplit, fsplit3, fpick, feq_l, pick, rewrite, suffices, use1, use2, done}
use types.Run.{look, load, stop, fld, of_opd, no_more, and_then, first, blocks, exec, returns, enter}
use types.ByLocal.{alloc_all, pass_all, free_all, look_at, get, get_in, through, sets, sets_last, env}
use types.Part.{agg, sub, whole}
use denote.Exit.{yes}
use denote.Memory.{lone}
use denote.RattleType.{owns}
use denote.RawPtr.{Ptr, block_ptr, null_ptr, in_a_block}
use denote.Signature.{plain, types_at}
use denote.Steps.{heard, nothing, only}
use denote.Struct.Tuple.{Tuple}
use denote.Triple.Walked.{Stays, stay_dropped, walk_of, says, Goes-dropped, ends_at}
use Rattle.core.proofs.alloc.Calls.{handle_tells}
use Rattle.std.proofs.raw_atomic.Walks.{proved_at}
use Rattle.std_alloc.proofs.OfVacant.{Vacant, Vacant-made, vacant_val, vacant_ty, vacant_typed}
use Rattle.std_alloc.proofs.Pairs.{pair_val, pair_Typed, pair_of}
use Rattle.std_alloc.proofs.RawLayout.{as_raw}
use Rattle.std_alloc.proofs.VecSteps.Shapes.{after}
use Rattle.std_alloc.specs.Box.Ownership.{box_owns}
use Rattle.std_heap.specs.contracts.Global as heap
use Rattle.fmp_session.specs.declared.session.Session.{Session}
use Rattle.fmp_c.specs.Owned.{boxed, freeing, owned}
use Rattle.fmp_c.proofs.Words.{allocator, word, word_tells, box_tells}
use Rattle.fmp_c.specs.contracts.handle.Handle.{the_row as row}
use Rattle.fmp_c.specs.contracts.handle.Handle.taken as f
use Rattle.fmp_c.proofs.handle.Handle.taken.Statement.{statement}
use Rattle.fmp_c.proofs.handle.Handle.taken.Code as code

abbrev τ : Ty
τ = lone boxed.mir

abbrev stayed : Stays f.ended.signature.params f.ended.kept
stayed = (stay_dropped _ yes, (stay_dropped _ yes, tt))

-- what is there, where there is something
there : (held : Option Session) → IsTrue (is_some held) → (s : Session) × (held ≡ Some s)
there None is = absurd (false≢true is)
there (Some s) is = (s, refl)

pub taken_spec : {M : Type 1} → statement M
taken_spec 𝓤 𝓛 𝓜 𝓡 wired =
    let 𝓣 = tables 𝓤 𝓛.H 𝓜 𝓡 𝓡.env in let c = f.clauses 𝓛 𝓜.mem 𝓡.returns in
    proved_at 𝓛 f.ended stayed c 𝓜 𝓡 (Goes-dropped 𝓛 0 (plain (λ _. row)) yes (λ κs x w. refl), (Goes-dropped 𝓛 0 (plain (λ _. heap.the_row)) yes (λ κs x w. refl), tt))
    f.Key.name code.function (code.unfolded 𝓤 𝓛.H 𝓜 𝓡 wired) (λ y are.
    let h = y.0.3.0 in let a = y.0.3.1.0 in let Post : Val → SProp 𝓤 = (walk_of 𝓛 f.ended stayed c).post y in
    let Runs : List Val → SProp 𝓤 = λ ws. WpFn 𝓤 𝓛.H 𝓣.C 𝓣.Λ code.function ws Post in
    qed 𝓛 ((‵ ftrue ⊛ ‵ (owns (types_at f.signature.params y.0.0) y.0.3 y.0.4)) ∷ raw (fact 𝓤 (IsTrue (is_some h.held))) ∷ []) ∵
    move ! (1 ∷ []) $ heard ! (IsTrue (is_some h.held)) (λ is. let s : Session = (there h.held is).0 in let same : h.held ≡ Some s = (there h.held is).1 in
    split ! $ drop ! $ fsplit3 ! $
    word_tells ! h y.0.4.0 (λ at_word. rewrite ! 0 (λ (o : Option Session). ‵ (owned h.at o)) same refl $
    fpick ! (λ x. fsplit ! $ feq_l ! (λ same_session.
    in_a_block ! h.at (λ p. box_owns freeing boxed p x) (fst∗ 𝓤 (never 𝓤) (sem 𝓛 (freeing (bare τ) null_ptr))) (λ b o at_block.
    fsplit ! $ move ! (2 ∷ []) $ handle_tells allocator ! a y.0.4.1.0 (λ g at_g fits.
    let at : y.0.4.0 ≡ word (block_ptr b o) ∷ [] = subst (λ (p : Ptr). y.0.4.0 ≡ word p ∷ []) at_block at_word in
    suffices ! (Runs (word (block_ptr b o) ∷ g ∷ []))
    (subst (λ (ws : List Val × List Val). ent 𝓤 (Runs (word (block_ptr b o) ∷ g ∷ [])) (Runs (ws.0 ++ (ws.1 ++ [])))) (λ i. (sym at i, sym at_g i)) (id⊢ 𝓤 _)) $
    -- [the box in memory; the right to free the block; the allocator]
    keep ! (1 ∷ 2 ∷ 0 ∷ []) $
    use1 𝓛 (some (λ (v : Val). ‵ (fat full_share τ b o v) ⊛ ‵ (boxed.own_val x (v ∷ []))))
    (part_out 𝓛 boxed refl full_share x b o) $ pick ! (λ v. split ! $ move ! (1 ∷ []) $
    box_tells ! x (v ∷ []) (λ u at_u good. move ! (1 ∷ []) $ rewrite ! 0 (λ (w : Val). ‵ (fat full_share τ b o w)) (ap only at_u) refl $
    -- [the cell; the box; the right to free the block; the allocator]
    enter ! _ _ _ _ _ $ alloc_all ! (λ l. pass_all ! refl ((tt, (tt, tt)), (fits, tt)) $
    let room = vacant_val g b o in let typed = vacant_typed allocator boxed g b o fits in
    sets ! (of_opd ! (get_in ! (fld ! refl (stop !)) (sub ! 0 refl (whole !)))) refl (tt, tt) $ sets ! (of_opd ! (get ! refl)) refl (tt, tt) $
    first ! $ blocks ! $ sets_last ! (of_opd ! (load ! (through ! refl (stop !)) (look ! 0 refl))) refl good $
    exec ! 𝓣.C 𝓣.Λ (env code.Mir.locals l) (after 3 (code.function).body) (at_ret _ Post) $
    sets ! (of_opd ! (get ! refl)) refl good $ sets ! (of_opd ! (get ! refl)) refl good $
    sets ! (agg ! (and_then ! (get ! refl) (and_then ! (get ! refl) (no_more !)))) refl typed $
    sets ! (agg ! (and_then ! (get ! refl) (and_then ! (get ! refl) (no_more !)))) refl (pair_Typed τ (vacant_ty allocator boxed) u room good typed) $
    returns ! (look_at ! 0 refl) $ free_all ! refl $
    use1 𝓛 (‵ (froom τ b o)) (𝓛.laws.at_room τ b o u) $ as_raw ! τ b o $ move ! (0 ∷ 2 ∷ 3 ∷ []) $ Vacant-made allocator boxed ! a b o $ move ! (1 ∷ []) $
    let block : (Vacant allocator boxed).Denot = record { ptr = block_ptr b o; alloc = a } in
    use2 𝓛 (‵ ((Tuple (boxed ∷ Vacant allocator boxed ∷ [])).own_val (x, block) (pair_val u room ∷ []))) (pair_of 𝓛 boxed (Vacant allocator boxed) x block u room) $
    suffices ! _ (ends_at 𝓛 f.ended stayed c y (pair_val u room) (x, block) (tt, (tt, tt)) (tt, (tt, tt))) $ says ! (same ∙ ap Some (sym same_session)) $
    nothing ! $ nothing ! $ join ! $ nothing ! $ join ! $ nothing ! $ done !))))))))))

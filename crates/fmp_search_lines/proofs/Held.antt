-- Steps of one who takes lines.
use Rattle.std.proofs.Common.{◌≡◌, ℕ, ◌+◌, ◌-◌, ◌≤◌, ltb, leb, Bool, true, false, ◌&&◌, Option, None, Some, List, [], ◌∷◌, ◌++◌, length, if◌then◌else◌, refl}
use Rattle.std.proofs.Common.{ap, sym, subst, ◌∙◌, arith, rules}
use Rattle.std.specs.Option.{option_map, option_and_then, is_some}
use Rattle.std.proofs.lemmas.Bool.{true≢false, false≢true, and_parts, ltb-true, le-ltb}
use Rattle.fmp_search.specs.Runs.{Goes, run}
use Rattle.fmp_search_lines.specs.Lasts.{last_at, must_at}
use Rattle.fmp_search_lines.specs.Orders.{FewOpen, IsBeginning, IsRight, numbers_from, most}
use Rattle.fmp_search_lines.specs.Places.{lines_of, may_pass, origin, Place, after, may_leave, top_after, pending_after}
use Rattle.fmp_search.specs.Answers.{NoneEver}
use Rattle.fmp_search_lines.specs.Held.{AllTakersSay, Held, is_reached, line_at, next, with_place}
use Rattle.fmp_search_lines.proofs.Verdicts.{told_by_pending, verdicts_say}
use Rattle.fmp_search_lines.proofs.Runs.{steps_are}

module _ {S : Type 0} (plays : S → ℕ → Option S) (h : Held S) (s : ℕ) where
  pub next-none : line_at h s ≡ None → next plays h s ≡ None
  next-none e = rw (steps_are plays (last_at h.lasts) h.count h.place s) (rw e refl)

  -- the place after the step that takes this line, where it leads to this state
  abbrev pub led : ℕ → S → Held S
  led line t = with_place h (record { top = top_after h.place.top s; pending = pending_after h.place.top h.place.pending line s; state = t })

  pub next-some : (line : ℕ) (t : S) → line_at h s ≡ Some line → plays h.place.state line ≡ Some t → next plays h s ≡ Some (led line t)
  next-some line t e right = rw (steps_are plays (last_at h.lasts) h.count h.place s) (rw e (rw right refl))

  pub next-wrong : (line : ℕ) → line_at h s ≡ Some line → plays h.place.state line ≡ None → next plays h s ≡ None
  next-wrong line e wrong = rw (steps_are plays (last_at h.lasts) h.count h.place s) (rw e (rw wrong refl))

  goes-none : (o : Option (Held S)) (q : Held S) → o ≡ None → Goes o false q
  goes-none None q e = refl
  goes-none (Some r) q e = absurd (search rules)

  goes-some : (o : Option (Held S)) (r q : Held S) → o ≡ Some r → q ≡ r → Goes o true q
  goes-some None r q e same = absurd (search rules)
  goes-some (Some p) r q e same = let one : p ≡ r = search rules in (refl, same ∙ sym one)

  pub none_goes : (q : Held S) → line_at h s ≡ None → Goes (next plays h s) false q
  none_goes q e = goes-none (next plays h s) q (next-none e)

  wrong_from : (line : ℕ) (t : S) (o : Option S) → plays h.place.state line ≡ o → Goes o false t → plays h.place.state line ≡ None
  wrong_from line t None is g = is
  wrong_from line t (Some r) is g = absurd (false≢true g.0)

  pub wrong_goes : (line : ℕ) (t : S) (q : Held S) → line_at h s ≡ Some line → Goes (plays h.place.state line) false t → Goes (next plays h s) false q
  wrong_goes line t q e g = goes-none (next plays h s) q (next-wrong line e (wrong_from line t (plays h.place.state line) refl g))

  right_from : (line : ℕ) (t : S) (o : Option S) → plays h.place.state line ≡ o → Goes o true t → plays h.place.state line ≡ Some t
  right_from line t None is g = absurd (true≢false g)
  right_from line t (Some r) is g = is ∙ ap (λ (x : S). Some x) (sym g.1)

  pub right_goes : (line : ℕ) (t : S) (top : ℕ) (pending : List ℕ) → line_at h s ≡ Some line → Goes (plays h.place.state line) true t →
      top ≡ top_after h.place.top s → pending ≡ pending_after h.place.top h.place.pending line s →
      Goes (next plays h s) true (with_place h (record { top = top; pending = pending; state = t }))
  right_goes line t top pending e g is_top is_pending =
      goes-some (next plays h s) (led line t) _ (next-some line t e (right_from line t (plays h.place.state line) refl g)) (rw (is_top, is_pending) refl)

  pub again_goes : (line : ℕ) (t : S) (top : ℕ) (pending : List ℕ) → line_at h s ≡ Some line → plays h.place.state line ≡ Some t →
      top ≡ top_after h.place.top s → pending ≡ pending_after h.place.top h.place.pending line s →
      next plays h s ≡ Some (with_place h (record { top = top; pending = pending; state = t }))
  again_goes line t top pending e right is_top is_pending = rw (is_top, is_pending) (next-some line t e right)

  right_by : (line : ℕ) (o : Option S) → plays h.place.state line ≡ o → line_at h s ≡ Some line → is_some (next plays h s) ≡ true → is_some o ≡ true
  right_by line None is e made = let none = next-wrong line e is in absurd (false≢true (rw none at made))
  right_by line (Some t) is e made = refl

  pub right_again : (line : ℕ) → line_at h s ≡ Some line → is_some (next plays h s) ≡ true → is_some (plays h.place.state line) ≡ true
  right_again line e made = right_by line (plays h.place.state line) refl e made

  pub none_again : line_at h s ≡ None → is_some (next plays h s) ≡ true → ⊥
  none_again e made = let none = next-none e in false≢true (rw none at made)

  leaves : (line : ℕ) (b : Bool) → may_leave (last_at h.lasts) h.count h.place.top h.place.pending (s - most) ≡ b →
      (if b then Some (h.place.top + (s - most)) else None) ≡ Some line → may_leave (last_at h.lasts) h.count h.place.top h.place.pending (s - most) ≡ true
  leaves line true is e = is
  leaves line false is e = absurd (search rules)

  pub line_is_small : (line : ℕ) → line_at h s ≡ Some line → 16 ≤ s → h.place.top + (s - 16) + 1 ≤ h.count
  line_is_small line e high =
      let new = le-ltb s most high in
      let may = leaves line (may_leave (last_at h.lasts) h.count h.place.top h.place.pending (s - most)) refl (rw new at e) in
      let next = h.place.top + (s - most) in
      let passes = may_pass (last_at h.lasts) next (h.place.pending ++ numbers_from h.place.top (s - most)) in
      let under = ltb-true next h.count (and_parts (ltb next h.count) (passes && leb (length h.place.pending + (s - most)) most) may).0 in
      omega (arith, under)

same_some : {A : Type 0} (a b : A) → Some a ≡ Some b → a ≡ b
same_some a b h = search rules

map_some : {A B : Type 0} (f : A → B) (o : Option A) (r : B) → option_map f o ≡ Some r → (t : A) × (o ≡ Some t) × (f t ≡ r)
map_some f None r h = absurd (search rules)
map_some f (Some t) r h = (t, refl, same_some _ _ h)

then_some : {A B : Type 0} (f : A → Option B) (o : Option A) (r : B) → option_and_then f o ≡ Some r → (t : A) × (o ≡ Some t) × (f t ≡ Some r)
then_some f None r h = absurd (search rules)
then_some f (Some t) r h = (t, refl, h)

module _ {S : Type 0} (plays : S → ℕ → Option S) (h : Held S) where
  run_more : (s : ℕ) (ss : List ℕ) (p t q : Place S) → after plays (last_at h.lasts) h.count p s ≡ Some t →
      run (after plays (last_at h.lasts) h.count) t ss ≡ Some q →
      run (after plays (last_at h.lasts) h.count) p (s ∷ ss) ≡ Some q
  run_more s ss p t q goes leads = rw goes leads

  pub to_place : (steps : List ℕ) (p : Place S) (r : Held S) → run (next plays) (with_place h p) steps ≡ Some r →
      (q : Place S) × (run (after plays (last_at h.lasts) h.count) p steps ≡ Some q) × (with_place h q ≡ r)
  to_place [] p r e = (p, refl, same_some _ _ e)
  to_place (s ∷ ss) p r e =
      let one = then_some (λ x. run (next plays) x ss) (next plays (with_place h p) s) r e in
      let two = map_some (with_place (with_place h p)) (after plays (last_at h.lasts) h.count p s) one.0 one.1 in
      let rest = to_place ss two.0 r (subst (λ (x : Held S). run (next plays) x ss ≡ Some r) (sym two.2) one.2) in
      (rest.0, run_more s ss p two.0 rest.0 two.1 rest.1, rest.2)

  from_place : (steps : List ℕ) (p q : Place S) → run (after plays (last_at h.lasts) h.count) p steps ≡ Some q →
      run (next plays) (with_place h p) steps ≡ Some (with_place h q)
  from_place [] p q e = ap (λ (x : Place S). Some (with_place h x)) (same_some _ _ e)
  from_place (s ∷ ss) p q e =
      let one = then_some (λ x. run (after plays (last_at h.lasts) h.count) x ss) (after plays (last_at h.lasts) h.count p s) q e in
      let goes = one.1 in
      rw goes (from_place ss one.0 q one.2)

  module _ (s : S) (ends : (i : ℕ) → i + 1 ≡ h.goal → must_at h.musts i ≡ true) where
    is_found : (steps : List ℕ) (r : Held S) → run (next plays) (with_place h (origin s)) steps ≡ Some r → is_reached r ≡ true →
        IsRight plays (last_at h.lasts) h.count (must_at h.musts) h.goal s (lines_of (last_at h.lasts) h.count steps)
    is_found steps r leads reached =
        let there = to_place steps (origin s) r leads in
        let told = subst (λ (x : Held S). is_reached x ≡ true) (sym there.2) reached in
        (verdicts_say plays (last_at h.lasts) h.count (must_at h.musts) h.goal s).found steps there.0 there.1
        (told_by_pending (must_at h.musts) h.goal there.0 ends ∙ told)

    is_never : FewOpen (last_at h.lasts) h.count → NoneEver (next plays) is_reached (with_place h (origin s)) →
        IsBeginning plays (last_at h.lasts) h.count (must_at h.musts) h.goal s → ⊥
    is_never few none =
        (verdicts_say plays (last_at h.lasts) h.count (must_at h.musts) h.goal s).never few
        (λ steps q leads. told_by_pending (must_at h.musts) h.goal q ends ∙ none steps (with_place h q) (from_place steps (origin s) q leads))

pub takers_say : {S : Type 0} (plays : S → ℕ → Option S) → AllTakersSay plays
takers_say plays h s ends = record { found = is_found plays h s ends; never = is_never plays h s ends }

-- What a handle and a box are in the machine. Assumes `Logic`.
--     word, handle_in    a handle is its pointer, and what it owns beside makes it whole
--     word_tells         the other way: what is owned of a handle says which value it is
--     box_tells          a box is one machine value, of its type
use Rattle.std.proofs.Common.{◌≡◌, List, [], ◌∷◌, refl}
use seplogic.Ra.Ura.{Ura}
use mir.Syntax.{impl, tnil, dnil}
use mir.Val.{Val, vstruct, vcons, vnil}
use base.Fml.{ftrue}
use types.Logic.{Logic}
use types.Kit.{Item, Goal, Seq, Step, step, ‵, ◌$◌, drop, fsplit, fjoin}
use denote.Laws.{Is, shows}
use denote.RawPtr.{Ptr, ptr_val}
use denote.Steps.{owned as gives, peeks}
use denote.Struct.Owning.{shape}
use denote.Struct.Struct.{Struct, Struct-Makes}
use Rattle.core.proofs.alloc.Calls.{Al, Fits, handle_tells}
use Rattle.std.specs.Prelude.{Option}
use Rattle.std_alloc.proofs.boxed.Box.TheLaws as box_laws
use Rattle.std_heap.specs.contracts.Global as heap
use Rattle.std_heap.proofs.Global.TheLaws as heap_laws
use Rattle.std_heap.specs.contracts.GlobalAllocator.TheImpl.{ghosts}
use Rattle.fmp_session.specs.declared.session.Session.{Session}
use Rattle.fmp_session.specs.contracts.session.Session as session
use Rattle.fmp_session.proofs.session.Session.TheLaws as session_laws
use Rattle.fmp_c.specs.Owned.{Boxed, boxed, owned}
use Rattle.fmp_c.specs.contracts.handle.Handle as handle
use Rattle.fmp_c.proofs.handle.Handle.TheLaws as handle_laws

-- the allocator, as the library's steps take it
abbrev pub allocator : Al
allocator = record { row = heap.the_row; laws = heap_laws.the_row_laws; g = ghosts; d = impl [] tnil dnil; drops = impl [] tnil dnil }

-- a box, in the same form
abbrev pub boxes : Al
boxes = record {
  row = boxed;
  laws = box_laws.the_row_laws session.the_row heap.the_row ghosts session_laws.the_row_laws heap_laws.the_row_laws;
  g = record { dealloc_token = λ _ _ _. ftrue };
  d = impl [] tnil dnil;
  drops = impl [] tnil dnil;
}

abbrev pub word : Ptr → Val
word p = vstruct (vcons (ptr_val p) vnil)

module _ {M : Type 1} {𝓤 : Ura M} {𝓛 : Logic 𝓤} {K : Type 0} {Γ : List (Item 𝓤)} {G : Goal 𝓤 𝓛.H} where
  pub handle_in : K → (p : Ptr) (h : Option Session)
      → Step K 𝓛 (‵ (handle.the_row.own_val (record { at = p; held = h }) (word p ∷ [])) ∷ Γ) G (‵ (owned p h) ∷ Γ) G
  handle_in t p h = step (λ s. let fields = Struct (shape handle.the_type) in
      gives t fields (Is fields) (Struct-Makes 𝓛 (shape handle.the_type) (λ _ _. tt, tt)) (p, tt) (word p ∷ []) ((ptr_val p ∷ [], tt), (refl, (refl, tt))) $ fjoin t $ s)

  pub word_tells : K → (d : handle.the_row.Denot) (vs : List Val)
      → (vs ≡ word d.at ∷ [] → Seq K 𝓛 (‵ (owned d.at d.held) ∷ Γ) G) → Seq K 𝓛 (‵ (handle.the_row.own_val d vs) ∷ Γ) G
  word_tells t d vs k = peeks t handle.the_row (Is handle.the_row) (shows 𝓛 handle.the_row) d vs (λ is. fsplit t $ drop t $ k (handle_laws.lowers.val_is d vs is))

  pub box_tells : K → (s : Boxed) (vs : List Val)
      → ((v : Val) → vs ≡ v ∷ [] → Fits boxes v → Seq K 𝓛 (‵ (boxed.own_val s (v ∷ [])) ∷ Γ) G) → Seq K 𝓛 (‵ (boxed.own_val s vs) ∷ Γ) G
  box_tells = handle_tells boxes

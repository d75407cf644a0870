-- What each change of the lists of entries and of the waits shows.
use Rattle.std.proofs.Common.{◌≡◌, ℕ, ◌-◌, ◌<◌, ◌≤◌, ◌==◌, Bool, true, false, cond, Option, Some, None, List, [], ◌∷◌, length, map, set, refl, sym, ap, ◌∙◌, arith, ⊎_elim}
use Rattle.std.specs.Prelude.{is_some}
use Rattle.std.specs.Option.{option_map}
use Rattle.std.proofs.lemmas.Bool.{cases_lt, eq-eqb, lt-ltb, le-ltb}
use Rattle.std.proofs.lemmas.List.{set-get_or}
use Rattle.fmp_codes.specs.declared.numbers.Proc.{Proc}
use Rattle.fmp_codes.specs.declared.numbers.Task.{Task}
use Rattle.fmp_time.specs.declared.item.Item.{Item}
use Rattle.fmp_time.specs.declared.item.Item.TheVariants.{Wait, Alarm, Cyclic}
use Rattle.fmp_time.specs.Differences.{Entry, entries_at, has_entry, sorted_in, take_out, ticks_in, least_of, lowered, not_due, IsLeastIn}
use Rattle.fmp_time.specs.Left.{Left, left_in, AreDisjoint}
use Rattle.fmp_time.specs.Times.{Times, place_of, item_at, left_of, began, ended, armed, cancelled, moved, moved_to, renewed, ticks_on, lowered_on, counted_down, IsLeastOn}
use Rattle.fmp_time.specs.Times as times
use Rattle.fmp_time.specs.Shown.{table, times_of}
use Rattle.fmp_time.proofs.Leaving.{gone}
use Rattle.fmp_time.proofs.Lefts.{left-take_out, left-insert, ticks_on-left, left-tick, left-lower}
use Rattle.fmp_time.proofs.Tables.{at-table, table-same, table-set, table-map}

pub place-low : (x : Item) → place_of x < 128
place-low (Wait t) = let high = t.most in let low = t.least in omega (arith, high, low)
place-low (Alarm o) = let high = o.most in let low = o.least in omega (arith, high, low)
place-low (Cyclic o) = let high = o.most in let low = o.least in omega (arith, high, low)

pub place-item_at : (k : ℕ) → k < 128 → place_of (item_at k) ≡ k
place-item_at k h =
    ⊎_elim (λ (l : k < 64). rw (lt-ltb k 64 l) (omega (arith, l)))
    (λ (l : 64 ≤ k). rw (le-ltb k 64 l)
    (⊎_elim (λ (m : k < 96). rw (lt-ltb k 96 m) (omega (arith, l, m))) (λ (m : 96 ≤ k). rw (le-ltb k 96 m) (omega (arith, m, h))) (cases_lt k 96)))
    (cases_lt k 64)

pub left_of-times : (q : List (List Entry)) (w : List Task) (x : Item) → left_of (times_of q w) x ≡ left_in q (place_of x)
left_of-times q w x = at-table (left_in q) (place_of x) None (place-low x)

pub times_same : (a b : List (Option Left)) (v w : List Task) → a ≡ b → v ≡ w → ◌≡◌ {A = Times} (record { left = a; waits = v }) (record { left = b; waits = w })
times_same a b v w e f = ap (λ (l : List (Option Left)). the l v) e ∙ ap (the b) f
  where
    the : List (Option Left) → List Task → Times
    the l v = record { left = l; waits = v }

table_out : (q : List (List Entry)) (k : ℕ) → k < 128 → table (left_in (take_out q k)) ≡ set (table (left_in q)) k None
table_out q k h = table-same (left_in (take_out q k)) (λ u. cond (u == k) None (left_in q u)) (λ u l. left-take_out 0 q k u) ∙ table-set (left_in q) k None h

-- the lists with an item on a processor, with so many ticks left
abbrev pub put_on : List (List Entry) → Proc → ℕ → ℕ → List (List Entry)
put_on q p k n = set (take_out q k) (p.number - 1) (sorted_in k n (entries_at (take_out q k) (p.number - 1)))

table_put : (q : List (List Entry)) (p : Proc) (k n : ℕ) → length (take_out q k) ≡ 8 → k < 128 → table (left_in (put_on q p k n)) ≡ set (table (left_in q)) k (Some (record { processor = p; ticks = n }))
table_put q p k n count h =
    table-same (left_in (put_on q p k n)) (λ u. cond (u == k) (Some (record { processor = p; ticks = n })) (left_in q u))
    (λ u l. left-insert (take_out q k) p k n u count (gone q k)
    ∙ ap (cond (u == k) (Some (record { processor = p; ticks = n }))) (left-take_out 0 q k u)
    ∙ elim (u == k) as (λ (b : Bool). cond b (Some (record { processor = p; ticks = n })) (cond b None (left_in q u)) ≡ cond b (Some (record { processor = p; ticks = n })) (left_in q u)) [ true ↦ refl | false ↦ refl ])
    ∙ table-set (left_in q) k (Some (record { processor = p; ticks = n })) h

pub armed_is : (q : List (List Entry)) (w : List Task) (p : Proc) (x : Item) (n : ℕ) → length (take_out q (place_of x)) ≡ 8 →
    times_of (put_on q p (place_of x) n) (began x w) ≡ armed (times_of q w) p x n
armed_is q w p x n count = times_same _ _ _ _ (table_put q p (place_of x) n count (place-low x)) refl

pub cancelled_is : (q : List (List Entry)) (w : List Task) (x : Item) → times_of (take_out q (place_of x)) (ended x w) ≡ cancelled (times_of q w) x
cancelled_is q w x = times_same _ _ _ _ (table_out q (place_of x) (place-low x)) refl

-- an item that counts goes on on another processor
pub moved_is : (q : List (List Entry)) (w : List Task) (p : Proc) (x : Item) (n : ℕ) → length (take_out q (place_of x)) ≡ 8 → Some n ≡ option_map (λ (l : Left). l.ticks) (left_in q (place_of x)) →
    times_of (put_on q p (place_of x) n) w ≡ moved_to (times_of q w) x p
moved_is q w p x n count e =
    times_same _ _ _ _ (table_put q p (place_of x) n count (place-low x) ∙ ap (set (table (left_in q)) (place_of x)) (there (left_in q (place_of x)) e ∙ ap (moved p) (sym (left_of-times q w x)))) refl
  where
    there : (o : Option Left) → Some n ≡ option_map (λ (l : Left). l.ticks) o → Some (record { processor = p; ticks = n }) ≡ moved p o
    there None f = cc
    there (Some l) f = let same : n ≡ l.ticks = cc in ap (λ (m : ℕ). Some (record { processor = p; ticks = m })) same

pub unmoved_is : (m : Times) (p : Proc) (x : Item) → None ≡ option_map (λ (l : Left). l.ticks) (left_of m x) → m ≡ moved_to m x p
unmoved_is m p x e =
    times_same _ _ _ _ (sym (ap (set m.left (place_of x)) (none (left_of m x) e) ∙ set-get_or m.left (place_of x) None)) refl
  where
    none : (o : Option Left) → None ≡ option_map (λ (l : Left). l.ticks) o → moved p o ≡ o
    none None f = refl
    none (Some l) f = cc

-- whether an item counts
pub counts_where : (q : List (List Entry)) (w : List Task) (x : Item) (k : ℕ) (b : Bool) → b ≡ is_some (left_in q k) → k ≡ place_of x → b ≡ is_some (left_of (times_of q w) x)
counts_where q w x k b e f = e ∙ ap (λ (j : ℕ). is_some (left_in q j)) f ∙ ap is_some (sym (left_of-times q w x))

pub renewed_there : (m : Times) (x : Item) → is_some (left_of m x) ≡ true → ◌≡◌ {A = Times} (record { left = m.left; waits = began x m.waits }) (renewed m x)
renewed_there m x e = times_same _ _ _ _ refl (sym (ap (λ (b : Bool). cond b (began x m.waits) m.waits) e))

pub renewed_not : (m : Times) (x : Item) → is_some (left_of m x) ≡ false → m ≡ renewed m x
renewed_not m x e = times_same _ _ _ _ refl (sym (ap (λ (b : Bool). cond b (began x m.waits) m.waits) e))

pub ticked_left : (q : List (List Entry)) (p : Proc) → AreDisjoint q → table (left_in (set q (p.number - 1) (not_due (lowered (entries_at q (p.number - 1)))))) ≡ map (counted_down p) (table (left_in q))
ticked_left q p d = table-same _ (λ k. counted_down p (left_in q k)) (λ k l. left-tick q d p k) ∙ table-map (counted_down p) (left_in q)

pub lowered_is : (q : List (List Entry)) (w : List Task) (p : Proc) → AreDisjoint q → times_of (set q (p.number - 1) (lowered (entries_at q (p.number - 1)))) w ≡ times.lowered (times_of q w) p
lowered_is q w p d = times_same _ _ _ _ (table-same _ (λ k. lowered_on p (left_in q k)) (λ k l. left-lower q d p k) ∙ table-map (lowered_on p) (left_in q)) refl

pub least_is : (q : List (List Entry)) (w : List Task) (p : Proc) (next : Option ℕ) → AreDisjoint q → next ≡ least_of (entries_at q (p.number - 1)) → IsLeastIn (entries_at q (p.number - 1)) next → IsLeastOn (times_of q w) p next
least_is q w p None d e least = λ x. read x ∙ none (entries_at q (p.number - 1)) e (place_of x)
  where
    read : (x : Item) → ticks_on p (left_of (times_of q w) x) ≡ ticks_in (entries_at q (p.number - 1)) (place_of x)
    read x = ap (ticks_on p) (left_of-times q w x) ∙ ticks_on-left q d p (place_of x)

    none : (es : List Entry) → None ≡ least_of es → (k : ℕ) → ticks_in es k ≡ None
    none [] f k = refl
    none (y ∷ ys) f k = cc
least_is q w p (Some n) d e least = by (entries_at q (p.number - 1)) refl e
  where
    read : (x : Item) → ticks_on p (left_of (times_of q w) x) ≡ ticks_in (entries_at q (p.number - 1)) (place_of x)
    read x = ap (ticks_on p) (left_of-times q w x) ∙ ticks_on-left q d p (place_of x)

    here : (k m : ℕ) (ys : List Entry) → has_entry k ((k, m) ∷ ys) ≡ true
    here k m ys = rw (eq-eqb k k refl) refl

    by : (es : List Entry) → entries_at q (p.number - 1) ≡ es → Some n ≡ least_of es → IsLeastOn (times_of q w) p (Some n)
    by [] s f = cc
    by (y ∷ ys) s f =
        let first : ticks_in (y ∷ ys) y.0 ≡ Some y.1 = ap (λ (b : Bool). cond b (Some y.1) (ticks_in ys y.0)) (eq-eqb y.0 y.0 refl) in
        let there : ticks_in (entries_at q (p.number - 1)) y.0 ≡ Some n = ap (λ (es : List Entry). ticks_in es y.0) s ∙ first ∙ sym f in
        let low : y.0 < 128 = d.small (p.number - 1) y.0 (ap (has_entry y.0) s ∙ here y.0 y.1 ys) in (
          (item_at y.0, read (item_at y.0) ∙ ap (ticks_in (entries_at q (p.number - 1))) (place-item_at y.0 low) ∙ there),
          (λ x k g. least (place_of x) k (sym (read x) ∙ g)),
        )

-- How many places are left where one thing is not looked at.
use Rattle.std.proofs.Common.{◌≡◌, ◌∙◌, inl, inr, ℕ, ◌+◌, ◌-◌, ◌<◌, List, [], ◌∷◌, ◌++◌, length, take, refl, ap, sym, subst, append_assoc, arith}
use Rattle.std.specs.Prelude.{set, slice_get, slice_index, Some}
use Rattle.std.proofs.Math.Seq.{set-append_seam, get_or-append_seam}
use Rattle.std.proofs.Math.ListN.{get_or-append}
use Rattle.std.proofs.lemmas.Bool.{cases_lt}
use Rattle.std.proofs.lemmas.Grind.{common_steps}
use Rattle.std.proofs.lemmas.Option.{none-some, slice_get-get_or}
use Rattle.fmp_interned.specs.Values.{AreDistinct, IsAdded, IsBeginning}
use Rattle.fmp_interned.proofs.Numbers.{number_stays, slice_get-before, slice_get-pushed}
use Rattle.fmp_kernel_order.specs.Queues.{Queues}
use Rattle.fmp_kernel_packed.specs.Shaped.{AreShaped}
use Rattle.fmp_kernel_packed.specs.Told.{things_of}
use Rattle.fmp_rules.specs.World.{World}
use Rattle.fmp_search_kernel.specs.Keys.{count_of_words, words_of}
use Rattle.fmp_search_kernel.specs.Weights.{AreLeft, spot_of}
use Rattle.fmp_search_orders.specs.Places.{Place}
use Rattle.fmp_setup.specs.Setup.{Setup}

ended_set : (front list other : List ℕ) (c d : ℕ) → list ≡ front ++ c ∷ [] → other ≡ front ++ d ∷ [] → set list (length list - 1) d ≡ other
ended_set front list other c d is other_is =
    let long : length (front ++ c ∷ []) ≡ length front + 1 = grind (arith, common_steps) in
    let last : length list - 1 ≡ length front = let same = ap length is in omega (arith, same, long) in
    ap (λ n. set list n d) last ∙ ap (λ (l : List ℕ). set l (length front) d) is ∙ set-append_seam front c [] d ∙ sym other_is

joined : (s k : ℕ) (us vs ws xs : List ℕ) → s ∷ (us ++ (vs ++ (ws ++ (xs ++ k ∷ [])))) ≡ (s ∷ (us ++ (vs ++ (ws ++ xs)))) ++ k ∷ []
joined s k us vs ws xs =
    ap (λ (l : List ℕ). s ∷ l)
    (sym (append_assoc us (vs ++ (ws ++ xs)) (k ∷ []) ∙ ap (λ (l : List ℕ). us ++ l) (append_assoc vs (ws ++ xs) (k ∷ []) ∙ ap (λ (l : List ℕ). vs ++ l) (append_assoc ws xs (k ∷ [])))))

-- the number of what counts is 0 in place of another
pub uncounted : (p : Place) (counting : ℕ) (numbers : List ℕ) → numbers ≡ words_of p counting → set numbers (length numbers - 1) 0 ≡ words_of p 0
uncounted p counting numbers is =
    let n = p.config.processors in
    ended_set (p.seen ∷ (take n p.taken ++ (take n p.idled ++ (take n p.handlers ++ take (length p.config.tasks) p.tasks)))) numbers (words_of p 0) counting 0
    (is ∙ joined p.seen counting (take n p.taken) (take n p.idled) (take n p.handlers) (take (length p.config.tasks) p.tasks))
    (joined p.seen 0 (take n p.taken) (take n p.idled) (take n p.handlers) (take (length p.config.tasks) p.tasks))

-- lists that were added one after the other
pub listed : (one two all ps ws vs us : List ℕ) → one ≡ ps → two ≡ one ++ ws → all ≡ two ++ us → ws ≡ vs → all ≡ ps ++ (vs ++ us)
listed one two all ps ws vs us first then last same =
    last ∙ ap (λ (l : List ℕ). l ++ us) (then ∙ ap (λ (l : List ℕ). l ++ ws) first) ∙ append_assoc ps ws us ∙ ap (λ (l : List ℕ). ps ++ (l ++ us)) same

-- kernels of one configuration have as many things
pub things_shaped : (v w : World Queues) → AreShaped v w → things_of v ≡ things_of w
things_shaped v w shaped =
    let alarms = shaped.alarms in
    let cyclics = shaped.cyclics in
    let tasks = shaped.tasks in
    let pools = shaped.alike.objects.pools in
    let eventflags = shaped.alike.objects.eventflags in
    let semaphores = shaped.alike.objects.semaphores in
    let queues : length v.data_queues ≡ length w.data_queues = ap (λ qs. length qs) shaped.alike.objects.data_queues in
    omega (arith, alarms, cyclics, tasks, pools, eventflags, semaphores, queues)

-- a thing's position is one of the numbers beside a kernel
pub spot_within : (c : Setup) (k : ℕ) → (spot_of c k).position < count_of_words c
spot_within c k = grind (arith, common_steps)

pub spot_part : (c : Setup) (k : ℕ) → (spot_of c k).part ≡ k
spot_part c k = grind (arith, common_steps)

-- what stands last
last_there : {V : Type 0} → (xs : List V) (x : V) → slice_get (xs ++ x ∷ []) (length xs) ≡ Some x
last_there xs x = slice_get-get_or (xs ++ x ∷ []) (length xs) x (grind (arith, common_steps)) ∙ ap Some (get_or-append_seam xs x [] x)

-- lists that tell the first keys, each of which was kept
pub record AreGathered (IsListOf : ℕ → List ℕ → Type 0) (keys : List ℕ) (at : ℕ) (kept : List (List ℕ)) : Type 0 where
  pub lists : List (List ℕ)
  pub long : length lists ≡ at
  pub are : (i : ℕ) (list : List ℕ) → slice_get lists i ≡ Some list → IsListOf (slice_index keys i) list
  pub all : (i : ℕ) (list : List ℕ) → slice_get lists i ≡ Some list → (n : ℕ) × (slice_get kept n ≡ Some list)
  pub only : (n : ℕ) (list : List ℕ) → slice_get kept n ≡ Some list → (i : ℕ) × (slice_get lists i ≡ Some list)

module _ (IsListOf : ℕ → List ℕ → Type 0) (keys : List ℕ) where
  pub none_gathered : (kept : List (List ℕ)) → kept ≡ [] → AreGathered IsListOf keys 0 kept
  none_gathered kept none = record {
    lists = [];
    long = refl;
    are = λ i list there. absurd (none-some list there);
    all = λ i list there. absurd (none-some list there);
    only = λ n list there. absurd (none-some list (subst (λ (vs : List (List ℕ)). slice_get vs n ≡ Some list) none there));
  }

  pub one_gathered : (at n : ℕ) (kept more : List (List ℕ)) (list : List ℕ) → AreGathered IsListOf keys at kept → IsListOf (slice_index keys at) list → slice_get more n ≡ Some list →
      IsBeginning kept more → IsAdded kept list more → AreGathered IsListOf keys (at + 1) more
  one_gathered at n kept more list are is there begins added =
      let long = are.long in record {
        lists = are.lists ++ list ∷ [];
        long = grind (arith, common_steps, long);
        are = λ i other at_i. elim (slice_get-pushed are.lists list other i at_i) [
          | inl last ↦ subst (λ (l : List ℕ). IsListOf (slice_index keys i) l) (sym last.1) (subst (λ j. IsListOf (slice_index keys j) list) (sym (last.0 ∙ are.long)) is)
          | inr before ↦ are.are i other before
        ];
        all = λ i other at_i. elim (slice_get-pushed are.lists list other i at_i) [
          | inl last ↦ (n, there ∙ ap Some (sym last.1))
          | inr before ↦ let was = are.all i other before in (was.0, number_stays kept more was.0 other begins was.1)
        ];
        only = λ m other at_m. only_by added m other at_m;
      }
    where
      last_of : slice_get (are.lists ++ list ∷ []) (length are.lists) ≡ Some list
      last_of = last_there are.lists list

      was : (m : ℕ) (other : List ℕ) → slice_get kept m ≡ Some other → (i : ℕ) × (slice_get (are.lists ++ list ∷ []) i ≡ Some other)
      was m other at_m = let old = are.only m other at_m in (old.0, slice_get-before are.lists (list ∷ []) old.0 other old.1)

      only_by : IsAdded kept list more → (m : ℕ) (other : List ℕ) → slice_get more m ≡ Some other → (i : ℕ) × (slice_get (are.lists ++ list ∷ []) i ≡ Some other)
      only_by (inl same) m other at_m = was m other (subst (λ (vs : List (List ℕ)). slice_get vs m ≡ Some other) same at_m)
      only_by (inr new) m other at_m = elim (slice_get-pushed kept list other m (subst (λ (vs : List (List ℕ)). slice_get vs m ≡ Some other) new.1 at_m)) [
        | inl last ↦ (length are.lists, last_of ∙ ap Some (sym last.1))
        | inr before ↦ was m other before
      ]

  -- so many are left where no two that were kept are the same
  pub left_of : (at n : ℕ) (kept : List (List ℕ)) → AreGathered IsListOf keys at kept → at ≡ length keys → AreDistinct kept → n ≡ length kept → AreLeft IsListOf keys n
  left_of at n kept are end distinct count = record {
    lists = are.lists;
    long = are.long ∙ end;
    are = are.are;
    differ = record { values = kept; distinct = distinct; all = are.all; only = are.only; count_is = count };
  }

-- one count more
pub lefts_more : (Fact : ℕ → ℕ → Type 0) (lefts : List ℕ) (at n : ℕ) → length lefts ≡ at → ((k : ℕ) → k < at → Fact k (slice_index lefts k)) → Fact at n →
    (k : ℕ) → k < at + 1 → Fact k (slice_index (lefts ++ n ∷ []) k)
lefts_more Fact lefts at n long are last k lt = elim (cases_lt k at) [
  | inl before ↦ subst (Fact k) (sym (get_or-append lefts (n ∷ []) 0 k (omega (arith, before, long)))) (are k before)
  | inr past ↦
      let here : k ≡ at = omega (arith, lt, past) in
      subst (λ j. Fact j (slice_index (lefts ++ n ∷ []) j)) (sym here)
      (subst (Fact at) (sym (ap (λ j. slice_index (lefts ++ n ∷ []) j) (sym long) ∙ get_or-append_seam lefts n [] 0)) last)
]

-- What is so of an event, where nothing is looked for in its line: whatever line is taken for it.
use Rattle.std.proofs.Common.{◌≡◌, ℕ, Bool, true, false, cond, ◌&&◌, ◌||◌, not, Option, Some, None, List, [], ◌∷◌, map, ap, ap₂, sym, refl}
use Rattle.std.specs.Prelude.{slice_get}
use Rattle.std.proofs.lemmas.Bool.{or_parts}
use Rattle.fmp_facts.specs.Asking.{Asked}
use Rattle.fmp_search_pattern.specs.declared.items.Wanted.{Wanted}
use Rattle.fmp_search_pattern.specs.declared.items.Wanted.TheVariants as wanted
use Rattle.fmp_search_pattern.specs.declared.question.Step.{Step}
use Rattle.fmp_search_pattern.specs.Items.{Item, has_wanted, has_item, has_part}
use Rattle.fmp_search_pattern.specs.Lasting.{Lasting, is_so}
use Rattle.fmp_search_pattern.specs.Matching.{any}
use Rattle.fmp_search_pattern.specs.Questions.{allows, has_moment, has_unwanted, is_met, is_barred}
use Rattle.fmp_search_pattern.specs.Sights.{Sight}
use Rattle.fmp_search_pattern.specs.Lines.{is_in_line, part_reads, moment_reads, unwanted_reads, step_reads}

module _ (facts : Asked → Bool) (over : Bool) (line other : List ℕ) where
  abbrev one : Sight
  one = record { line = line; is_so = facts; over = over }

  abbrev two : Sight
  two = record { line = other; is_so = facts; over = over }

  wanted_same : (w : Wanted) → is_in_line w ≡ false → has_wanted one w ≡ has_wanted two w
  wanted_same wanted.Refused read = cc
  wanted_same wanted.End read = refl
  wanted_same (wanted.Line pattern) read = cc
  wanted_same (wanted.State words asked) read = refl

  item_same : (i : Item) → is_in_line i.wanted ≡ false → has_item one i ≡ has_item two i
  unfolding has_item
  item_same i read = ap (λ (b : Bool). cond i.negated (not b) b) (wanted_same i.wanted read)

  part_same : (part : List Item) → part_reads part ≡ false → has_part one part ≡ has_part two part
  part_same [] read = refl
  part_same (i ∷ part) read =
      let parts = or_parts (is_in_line i.wanted) (part_reads part) read in
      ap₂ (λ (a b : Bool). a && b) (item_same i parts.0) (part_same part parts.1)

  moment_same : (moment : List (List Item)) → moment_reads moment ≡ false → has_moment one moment ≡ has_moment two moment
  moment_same [] read = refl
  moment_same (part ∷ moment) read =
      let parts = or_parts (part_reads part) (moment_reads moment) read in
      ap₂ (λ (a b : Bool). a || b) (part_same part parts.0) (moment_same moment parts.1)

  all_same : (lasting : List Lasting) → any moment_reads lasting ≡ false → map (λ l. is_so l one) lasting ≡ map (λ l. is_so l two) lasting
  all_same [] read = refl
  all_same (l ∷ lasting) read =
      let parts = or_parts (moment_reads l) (any moment_reads lasting) read in
      ap₂ (λ (b : Bool) (bs : List Bool). b ∷ bs) (moment_same l parts.0) (all_same lasting parts.1)

  unwanted_same : (o : Option (List (List Item))) → unwanted_reads o ≡ false → has_unwanted one o ≡ has_unwanted two o
  unwanted_same None read = refl
  unwanted_same (Some moment) read = moment_same moment read

  allows_same : (question : List Step) (seen : ℕ) (marked : Bool) → step_reads (slice_get question seen) marked ≡ false →
      allows question seen marked one ≡ allows question seen marked two
  unfolding allows
  allows_same question seen true read = go (slice_get question seen) read
    where
      go : (o : Option Step) → step_reads o true ≡ false → is_met one o ≡ is_met two o
      go None r = refl
      go (Some s) r = moment_same s.moment r
  allows_same question seen false read = ap not (go (slice_get question seen) read)
    where
      go : (o : Option Step) → step_reads o false ≡ false → is_barred one o ≡ is_barred two o
      go None r = refl
      go (Some s) r = unwanted_same s.without r

  -- the line is the right one where it is read
  pub allowed_by : (read : Bool) (question : List Step) (seen : ℕ) (marked : Bool) → (read ≡ true → line ≡ other) → read ≡ step_reads (slice_get question seen) marked →
      allows question seen marked one ≡ allows question seen marked two
  allowed_by true question seen marked right is = ap (λ (l : List ℕ). allows question seen marked (record { line = l; is_so = facts; over = over })) (right refl)
  allowed_by false question seen marked right is = allows_same question seen marked (sym is)

  pub all_by : (read : Bool) (lasting : List Lasting) → (read ≡ true → line ≡ other) → read ≡ any moment_reads lasting →
      map (λ l. is_so l one) lasting ≡ map (λ l. is_so l two) lasting
  all_by true lasting right is = ap (λ (line : List ℕ). map (λ l. is_so l (record { line = line; is_so = facts; over = over })) lasting) (right refl)
  all_by false lasting right is = all_same lasting (sym is)

-- What one knows who watches for what stays for ever.
use Rattle.std.proofs.Common.{◌≡◌, ◌∙◌, ℕ, true, false, cond, List, [], map, Option, Some, None, refl, ap, sym, subst}
use Rattle.std.specs.Prelude.{option_map}
use Rattle.fmp_codes.specs.declared.records.Event.{Event}
use Rattle.fmp_codes.specs.declared.records.Record.{Record}
use Rattle.fmp_rules.specs.Step.{step}
use Rattle.fmp_kernel_order.specs.Queues.{listed}
use Rattle.fmp_interned.specs.Keys.{AreKeptBy, IsKeyOf}
use Rattle.fmp_search.specs.declared.space.Noted.{Noted}
use Rattle.fmp_search.specs.Runs.{Watches}
use Rattle.fmp_search_pattern.specs.Questions.{allows}
use Rattle.fmp_search_pattern.specs.Sights.{Sight}
use Rattle.fmp_search_pattern.specs.Lasting.{Lasting, is_so}
use Rattle.fmp_search_orders.specs.Lasting.{step_test, test_there}
use Rattle.fmp_search_orders.specs.Places.{Place, origin, event_of, is_marked, went, sight_at, allowed, next_place, after}
use Rattle.fmp_search_orders.specs.Watched.{Watched, watched, watched_after, origin_at, bits_of}
use Rattle.fmp_search_kernel.specs.Keys.{IsPlaceKey, KeptPlaces}
use Rattle.fmp_search_kernel.specs.Walked.{origin_of}

-- ---- steps where no question is asked

refused : (n : ℕ) (sight : Sight) → allows [] n true sight ≡ false
unfolding allows
refused n sight = refl

passed : (n : ℕ) (sight : Sight) → allows [] n false sight ≡ true
unfolding allows
passed n sight = refl

module _ (w : Place) (none : w.question ≡ []) (s : ℕ) where
  -- one with a mark cannot be made
  pub marked_none : is_marked s ≡ true → after w s ≡ None
  unfolding after
  marked_none mark = go (event_of w s)
    where
      go : (o : Option Event) → next_place w (is_marked s) o ≡ None
      go None = refl
      go (Some e) =
          let did = step listed w.machine e in
          let text = sight_at (went w true did) did.1 in
          let never : allows w.question w.seen true text ≡ false = ap (λ q. allows q w.seen true text) none ∙ refused w.seen text in
          ap (λ b. allowed w b did) mark ∙ ap (λ b. cond b (Some (went w true did)) None) never

  pub eventless : event_of w s ≡ None → after w s ≡ None
  unfolding after
  eventless is = ap (next_place w (is_marked s)) is

  -- and one without goes where its event leads
  pub unmarked : (e : Event) → is_marked s ≡ false → event_of w s ≡ Some e → after w s ≡ Some (went w false (step listed w.machine e))
  unfolding after
  unmarked e mark is =
      let did = step listed w.machine e in
      let text = sight_at (went w false did) did.1 in
      let free : allows w.question w.seen false text ≡ true = ap (λ q. allows q w.seen false text) none ∙ passed w.seen text in
      ap (next_place w (is_marked s)) is ∙ ap (λ b. allowed w b did) mark ∙ ap (λ b. cond b (Some (went w false did)) None) free

  -- what was told of the event is so of the step
  pub watches_so : (w' : Place) (e : Event) (lasting : List Lasting) (n number told : ℕ) (r : Record) → is_marked s ≡ false → event_of w s ≡ Some e →
      w' ≡ went w false (step listed w.machine e) → r ≡ (step listed w.machine e).1 → n ≡ bits_of (map (λ l. is_so l (sight_at w' r)) lasting) → told ≡ number →
      Watches (after w s) (record { passes = bits_of (map (λ l. step_test (is_so l) w s) lasting); number = number }) (Some (record { passes = n; number = told })) w'
  watches_so w' e lasting n number told r mark is there report bits numbered =
      let did = step listed w.machine e in
      let same : n ≡ bits_of (map (λ l. step_test (is_so l) w s) lasting) =
      bits
      ∙ ap (λ (x : Place). bits_of (map (λ l. is_so l (sight_at x r)) lasting)) there
      ∙ ap (λ (x : Record). bits_of (map (λ l. is_so l (sight_at (went w false did) x)) lasting)) report
      ∙ sym (ap (λ o. bits_of (map (λ l. test_there (is_so l) w o) lasting)) is) in
      let noted : Noted = record { passes = n; number = told } in
      let all : noted ≡ record { passes = bits_of (map (λ l. step_test (is_so l) w s) lasting); number = number } =
      ap (λ (k : ℕ). record { passes = k; number = told }) same ∙ ap (λ (k : ℕ). record { passes = bits_of (map (λ l. step_test (is_so l) w s) lasting); number = k }) numbered in
      subst (λ o. Watches o (record { passes = bits_of (map (λ l. step_test (is_so l) w s) lasting); number = number }) (Some noted) w') (sym (unmarked e mark is)) (ap Some all, there)

  pub watches_none : (w' : Place) (p : Noted) → after w s ≡ None → Watches (after w s) p None w'
  watches_none w' p is = subst (λ o. Watches o p None w') (sym is) refl

-- ---- with what is asked

module _ (lasting : List Lasting) where
  pub watches_watched : (w w' : Place) (s : ℕ) (p : Noted) (report : Option Noted) → Watches (after w s) p report w' → Watches (watched_after (watched lasting w) s) p report (watched lasting w')
  watches_watched w w' s p report = go (after w s)
    where
      go : (o : Option Place) → Watches o p report w' → Watches (option_map (watched lasting) o) p report (watched lasting w')
      go None is = is
      go (Some x) is = (is.0, ap (watched lasting) is.1)

  pub none_watched : (w : Place) (s : ℕ) → after w s ≡ None → watched_after (watched lasting w) s ≡ None
  none_watched w s is = ap (option_map (watched lasting)) is

  pub origin_watched : (w : Place) → w.question ≡ [] → watched lasting (origin_of w) ≡ origin_at (watched lasting w)
  origin_watched w none = ap (λ q. watched lasting (origin w.config w.scripts w.rules q)) none

pub same_origin : (l m : List Lasting) (w v : Place) → w.question ≡ [] → v.question ≡ [] → origin_at (watched l w) ≡ origin_at (watched m v) → origin_of w ≡ origin_of v
same_origin l m w v none no_other is =
    ap (λ q. origin w.config w.scripts w.rules q) none ∙ ap (λ (x : Watched). x.place) is ∙ sym (ap (λ q. origin v.config v.scripts v.rules q) no_other)

-- a place of which the runs begin where those of another do asks no question either
pub still_none : (w v : Place) → origin_of v ≡ origin_of w → w.question ≡ [] → v.question ≡ []
still_none w v same none = ap (λ (x : Place). x.question) same ∙ none

-- the runs of one who watches begin where they did, where those of the places do
pub origin_kept : (lasting : List Lasting) (w v : Place) → origin_of v ≡ origin_of w → origin_at (watched lasting v) ≡ origin_at (watched lasting w)
origin_kept lasting w v is = ap (λ (x : Place). watched lasting (origin x.config x.scripts x.rules [])) is

-- ---- keys

module _ (lasting : List Lasting) (w : Place) (none : w.question ≡ []) where
  abbrev beginning : Place
  beginning = origin w.config w.scripts w.rules []

  begins : origin_of w ≡ beginning
  begins = ap (origin w.config w.scripts w.rules) none

  -- keys of places with what is asked
  abbrev pub WatchedKey : KeptPlaces → ℕ → Watched → Type 0
  WatchedKey t k v = (v.lasting ≡ lasting) × IsPlaceKey beginning t k v.place

  pub key_watched : (t : KeptPlaces) (k : ℕ) (v : Watched) → IsPlaceKey beginning t k v.place → IsPlaceKey (origin_of w) t k v.place
  key_watched t k v = subst (λ (o : Place). IsPlaceKey o t k v.place) (sym begins)

  watched_key : (t : KeptPlaces) (k : ℕ) (v : Place) → IsPlaceKey (origin_of w) t k v → IsPlaceKey beginning t k v
  watched_key t k v = subst (λ (o : Place). IsPlaceKey o t k v) begins

  pub place_watched : (v : Watched) (r : Place) → v.lasting ≡ lasting → v.place ≡ r → v ≡ watched lasting r
  place_watched v r asked is = ap (λ l. watched l v.place) asked ∙ ap (watched lasting) is

  pub is_key_watched : (t : KeptPlaces) (k : ℕ) → IsKeyOf (IsPlaceKey (origin_of w) t) w k → IsKeyOf (WatchedKey t) (watched lasting w) k
  is_key_watched t k key = record {
    there = (refl, watched_key t k w key.there);
    one = λ j g. key.one j (key_watched t j (watched lasting w) g.1);
    only = λ v g. place_watched v w g.0 (key.only v.place (key_watched t k v g.1));
  }

  pub kept_watched : (old new : KeptPlaces) → AreKeptBy (IsPlaceKey (origin_of w) old) (IsPlaceKey (origin_of w) new) → AreKeptBy (WatchedKey old) (WatchedKey new)
  kept_watched old new kept k v g = (g.0, watched_key new k v.place (kept k v.place (key_watched old k v g.1)))

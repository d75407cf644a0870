-- The figures of a configuration.
use Rattle.std.proofs.Common.{◌≡◌, ◌∙◌, ℕ, zero, suc, ◌*◌, ◌≤◌, List, [], ◌++◌, length, refl, ap, sym, arith}
use Rattle.std.proofs.lemmas.List.{length-append, length-map}
use Rattle.fmp_setup.specs.Setup.{Setup}
use Rattle.fmp_setup.specs.Valid.{IsValid}
use Rattle.fmp_run_most.specs.declared.figure.Figure.{Figure}
use Rattle.fmp_run_most.specs.declared.figure.Measure.{Measure}
use Rattle.fmp_run_most.specs.Figures.{figures_of, of_thing, of_things, of_processor, of_task, of_semaphore, of_eventflag, of_data_queue, of_pool}

few_things : (ms : List Measure) (n : ℕ) → length ms ≤ 3 → length (of_things ms n) ≤ n * 3
few_things ms zero few = omega arith
few_things ms (suc n) few =
    let before = few_things ms n few in
    let sum = length-append (of_things ms n) (of_thing ms (suc n)) in
    let made : Measure → Figure = λ m. record { measure = m; number = suc n } in
    let one = length-map ms made in
    omega (arith, before, sum, one, few)

module _ (c : Setup) where
  abbrev pools : List Figure
  pools = of_things of_pool (length c.pools)

  abbrev queues : List Figure
  queues = of_things of_data_queue (length c.data_queues)

  abbrev flags : List Figure
  flags = of_things of_eventflag (length c.eventflags)

  abbrev semaphores : List Figure
  semaphores = of_things of_semaphore (length c.semaphores)

  abbrev tasks : List Figure
  tasks = of_things of_task (length c.tasks)

  abbrev processors : List Figure
  processors = of_things of_processor c.processors

  figures_are : figures_of c ≡ processors ++ tasks ++ semaphores ++ flags ++ queues ++ pools
  unfolding figures_of
  figures_are = refl

  -- lists of which each goes on with the figures of one kind
  pub all_listed : (v w x y z a b : List Figure) → v ≡ [] → w ≡ v ++ processors → x ≡ w ++ tasks → y ≡ x ++ semaphores → z ≡ y ++ flags → a ≡ z ++ queues → b ≡ a ++ pools → b ≡ figures_of c
  all_listed v w x y z a b e f g h i j k =
      let one : w ≡ processors = f ∙ ap (λ (xs : List Figure). xs ++ processors) e in
      let two = g ∙ ap (λ (xs : List Figure). xs ++ tasks) one in
      let three = h ∙ ap (λ (xs : List Figure). xs ++ semaphores) two in
      let four = i ∙ ap (λ (xs : List Figure). xs ++ flags) three in
      let five = j ∙ ap (λ (xs : List Figure). xs ++ queues) four in
      k ∙ ap (λ (xs : List Figure). xs ++ pools) five ∙ sym figures_are

  pub figures_few : IsValid c → length (figures_of c) ≤ 1024
  figures_few valid =
      let a = few_things of_processor c.processors (omega arith) in
      let b = few_things of_task (length c.tasks) (omega arith) in
      let d = few_things of_semaphore (length c.semaphores) (omega arith) in
      let e = few_things of_eventflag (length c.eventflags) (omega arith) in
      let f = few_things of_data_queue (length c.data_queues) (omega arith) in
      let g = few_things of_pool (length c.pools) (omega arith) in
      let v = valid.few_processors in
      let w = valid.few_tasks in
      let x = valid.few.semaphores in
      let y = valid.few.eventflags in
      let z = valid.few.data_queues in
      let p = valid.few.pools in
      let h = length-append processors tasks in
      let i = length-append (processors ++ tasks) semaphores in
      let j = length-append (processors ++ tasks ++ semaphores) flags in
      let k = length-append (processors ++ tasks ++ semaphores ++ flags) queues in
      let l = length-append (processors ++ tasks ++ semaphores ++ flags ++ queues) pools in
      let all = ap (λ (xs : List Figure). length xs) figures_are in
      omega (arith, a, b, d, e, f, g, v, w, x, y, z, p, h, i, j, k, l, all)

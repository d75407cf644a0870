use Rattle.std.proofs.Common.{◌≡◌, ◌≤◌, ◌∙◌, length, IsTrue, refl, ap, sym, arith}
use Rattle.std.proofs.lemmas.Bool.{eqb-true, eq-eqb}
use Rattle.fmp_world.proofs.Found.{seats_are, seats_begin, clock_passed}
use Rattle.fmp_world.proofs.findings.Findings.fit.Goals as goal
use Rattle.fmp_world.proofs.findings.Findings.fit.Goals.{then-not-self-via-then-not-self, then-not-self-via-else-not-self+then-len-from}

pub returns-then-not-self : goal.returns-then-not-self
returns-then-not-self c = λ h finds on.
    let a = c.args in (
      λ t. cc,
      λ seats. elim c.then-not-self.branch [
        | then-not-self-via-then-not-self w ↦
            let few : length a.seats.now.cpus.items ≤ 8 = omega (arith, seats.count) in
            let fits = seats_begin a.self.now a.processors a.seats.now.cpus.items a.seats.now.clock h finds on few seats in
            cc
        | then-not-self-via-else-not-self+then-len-from w ↦ let count = seats.count in absurd (omega arith)
      ],
    )

pub returns : goal.returns
returns c = λ h finds on.
    let a = c.args in
    let fits : IsTrue a.self.now.fits = cc in
    let count : length a.seats.now.cpus.items ≡ a.processors = omega arith in
    let few : length a.seats.now.cpus.items ≤ 8 = omega (arith, count) in
    let same : c.deref.result.now ≡ a.seats.now.cpus.items = c.deref.ensures.0 in
    let passed = rw same at (c.if-not-all_passed.ensures.0 refl) in (
      λ t. seats_are a.self.now a.processors a.seats.now.cpus.items a.seats.now.clock h finds on few fits count passed
          (ap length (sym c.receipts.ensures) ∙ eqb-true _ _ t),
      λ seats. eq-eqb _ _ (ap length c.receipts.ensures ∙ clock_passed a.self.now a.processors a.seats.now.cpus.items a.seats.now.clock h finds on few seats),
    )

use Rattle.std.proofs.Common.{rules, ◌≡◌}
use Rattle.std.specs.Prelude.{Err}
use Rattle.fmp_cli_perform.proofs.Done.{not_played, played}
use Rattle.fmp_cli_perform.proofs.scripts.followed.Goals as goal

pub returns-in_err-texts : goal.returns-in_err-texts
returns-in_err-texts g c =
    let is : c.from_residual.result ≡ Err c.in_err-texts.field-0.0 = search rules in
    rw (is) (not_played _ _ c.args.request.now c.args.request.now.seeds c.in_err-texts.field-0.0 c.in_err-texts.ensures.err)

pub returns-in-Ok : goal.returns-in-Ok
returns-in-Ok g c = played _ _ c.args.request.now c.args.request.now.seeds c.in_ok-texts.texts _ _ c.made.result _ c.made.ensures c.as_slice-config.ensures.value
    c.in_ok-texts.ensures.config
    (record {
      bytes = c.in_ok-texts.scripts.items;
      are = c.in_ok-texts.ensures.text;
      is = record { left = search rules; given = search rules; ended = search rules; failures = search rules };
    })
    (search rules)

pub returns-in-Err : goal.returns-in-Err
returns-in-Err g c = played _ _ c.args.request.now c.args.request.now.seeds c.in_ok-texts.texts _ _ c.made.result _ c.made.ensures c.as_slice-config.ensures.value
    c.in_ok-texts.ensures.config
    (record {
      bytes = c.in_ok-texts.scripts.items;
      are = c.in_ok-texts.ensures.text;
      is = record { left = search rules; given = search rules; ended = search rules; failures = search rules };
    })
    (search rules)

-- What a draft holds. It stands apart, so that what speaks of drafts does not reach the table in which names are looked up.
use Rattle.fmp_config.specs.declared.draft.Draft.{Draft as Drafted}
use Rattle.fmp_config.specs.Drafts.{Draft}

abbrev pub draft_of : Drafted → Draft
draft_of d = record { setup = d.parts; open_class = d.open_class; phase = d.phase; timer_stood = d.timer_stood; limits_stood = d.limits_stood }

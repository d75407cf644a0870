-- Why not all calls are known that are made.
use Rattle.std.proofs.Common.{ℕ, Bool, false, List, [], refl, ap}
use Rattle.fmp_setup.specs.Setup.{Setup}
use Rattle.fmp_text_scripts.specs.Scripts.{Steps}
use Rattle.fmp_search.specs.Meeting.{IsLeftOpen}
use Rattle.fmp_search.proofs.Viewed.{open_viewed}
use Rattle.fmp_search_pattern.specs.Lasting.{Lasting}
use Rattle.fmp_search_orders.specs.declared.rules.Rules.{Rules}
use Rattle.fmp_search_orders.specs.Places.{after, origin}
use Rattle.fmp_search_orders.specs.Unknown.{IsNotKnown}
use Rattle.fmp_search_orders.specs.Watched.{Watched, watched, watched_after}

-- what is known of places with what is asked of events is known of places
pub not_known : (c : Setup) (scripts : List Steps) (rules : Rules) (lasting : List Lasting) (turns room : ℕ) (over : Bool)
    → IsLeftOpen watched_after (λ w. false) (watched lasting (origin c scripts rules [])) turns room over → IsNotKnown c scripts rules turns room over
not_known c scripts rules lasting turns room over =
    open_viewed after watched_after (watched lasting) (λ p s. refl) (λ a b same. ap (λ (w : Watched). w.place) same) (origin c scripts rules []) turns room over

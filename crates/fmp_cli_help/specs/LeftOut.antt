-- What the profile leaves out.
use Rattle.std.specs.Prelude.{ℕ, Bool, ◌||◌, List, [], ◌∷◌, ◌==◌, codes}
use Rattle.std.specs.List.{starts_with, ends_with, list_any}
use Rattle.std.specs.Str.{bytes_eq}

-- how the names of left-out families begin: dynamic creation and deletion, references, and initialization
abbrev pub beginnings : List (List ℕ)
beginnings = codes "acre_" ∷ codes "del_" ∷ codes "ref_" ∷ codes "ini_" ∷ []

-- how they end: mutexes, mailboxes, priority data queues, message buffers, variable pools, task exceptions, overrun handlers
abbrev pub endings : List (List ℕ)
endings =
    codes "_mtx" ∷ codes "_mbx" ∷ codes "_pdq" ∷ codes "_mbf" ∷ codes "_mpl" ∷ codes "_tex" ∷ codes "_ovr" ∷ []

-- the service calls, the statements and the constant that are left out one by one
abbrev pub names : List (List ℕ)
names =
    codes "frsm_tsk" ∷ codes "isig_tim" ∷ codes "get_inf" ∷ codes "dis_wai" ∷ codes "idis_wai" ∷ codes "ena_wai"
    ∷ codes "iena_wai" ∷ codes "set_tim" ∷ codes "get_tim" ∷ codes "get_utm" ∷ codes "sns_ker" ∷ codes "ext_ker"
    ∷ codes "chg_ipm" ∷ codes "get_ipm" ∷ codes "dis_int" ∷ codes "ena_int" ∷ codes "xsns_dpn" ∷ codes "xsns_xpn"
    ∷ codes "CRE_MTX" ∷ codes "CRE_MBX" ∷ codes "CRE_PDQ" ∷ codes "CRE_MBF" ∷ codes "CRE_MPL" ∷ codes "DEF_TEX"
    ∷ codes "DEF_OVR" ∷ codes "DEF_EXC" ∷ codes "CFG_INT" ∷ codes "DEF_INH" ∷ codes "ATT_ISR" ∷ codes "ATT_INI"
    ∷ codes "ATT_TER" ∷ codes "TMO_NBLK"
    ∷ codes "get_lod" ∷ codes "mget_lod" ∷ codes "get_nth" ∷ codes "mget_nth" ∷ codes "ras_ter" ∷ codes "dis_ter"
    ∷ codes "ena_ter" ∷ codes "sns_ter" ∷ codes "adj_tim" ∷ codes "fch_hrt" ∷ codes "clr_int" ∷ codes "ras_int" ∷ codes "prb_int" ∷ codes "CRE_ISR" ∷ []

-- the word is the name of a service call, a statement or a constant that is left out: of a left-out family by its beginning or
-- its end, or one by one
unfoldable pub is_left_out : List ℕ → Bool
is_left_out word =
    list_any (λ beginning. starts_with ◌==◌ word beginning) beginnings
    || list_any (λ ending. ends_with ◌==◌ word ending) endings
    || list_any (λ name. bytes_eq name word) names

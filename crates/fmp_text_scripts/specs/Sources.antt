-- Sources: what the lines of a script say, in which labels have names, and which script that is.
use Rattle.std.specs.Prelude.{◌≡◌, ℕ, ◌+◌, ◌<◌, Bool, true, false, not, List, [], ◌∷◌, ◌++◌, length, Some}
use Rattle.fmp_codes.specs.declared.calls.Call.{Call}
use Rattle.fmp_text_scripts.specs.declared.linking.Jump.{Jump}
use Rattle.fmp_text_scripts.specs.declared.linking.Label.{Label}
use Rattle.fmp_text_scripts.specs.declared.ways.Pattern.{Pattern}
use Rattle.fmp_text_scripts.specs.Linking.{has_label, is_any, linked}
use Rattle.fmp_text_scripts.specs.Scripts.{Steps}
use Rattle.fmp_text_scripts.specs.Ways.{most_labels}

-- what a line between `script` and `end` says: a call; a label of a name; or where the script goes on after the call before it, for some of its answers
-- or, by `goto`, for all
pub data Part : Type 0 where
  Asks : Call → Part
  Stands : List ℕ → Part
  Jumps : Pattern → List ℕ → Part

pub record Source : Type 0 where
  pub function : ℕ
  pub parts : List Part

-- the calls, and after n calls the jumps and the labels, each with how many calls stand before it
abbrev pub calls_of : List Part → List Call
calls_of [] = []
calls_of (Asks call ∷ parts) = call ∷ calls_of parts
calls_of (Stands name ∷ parts) = calls_of parts
calls_of (Jumps answer name ∷ parts) = calls_of parts

abbrev pub jumps_of : ℕ → List Part → List Jump
jumps_of n [] = []
jumps_of n (Asks call ∷ parts) = jumps_of (n + 1) parts
jumps_of n (Stands name ∷ parts) = jumps_of n parts
jumps_of n (Jumps answer name ∷ parts) = record { after = n; answer = answer; name = name } ∷ jumps_of n parts

abbrev pub labels_of : ℕ → List Part → List Label
labels_of n [] = []
labels_of n (Asks call ∷ parts) = labels_of (n + 1) parts
labels_of n (Stands name ∷ parts) = record { name = name; at = n } ∷ labels_of n parts
labels_of n (Jumps answer name ∷ parts) = labels_of n parts

-- each jump stands after a call or an `on` of it, where `following` says so of the first part
abbrev pub ArePlaced : Bool → List Part → Type 0
ArePlaced following [] = Unit {0}
ArePlaced following (Asks call ∷ parts) = ArePlaced true parts
ArePlaced following (Stands name ∷ parts) = ArePlaced false parts
ArePlaced following (Jumps answer name ∷ parts) = (following ≡ true) × ArePlaced (not (is_any answer)) parts

-- whether a jump may stand after these parts
abbrev pub is_after : Bool → List Part → Bool
is_after following [] = following
is_after following (Asks call ∷ parts) = is_after true parts
is_after following (Stands name ∷ parts) = is_after false parts
is_after following (Jumps answer name ∷ parts) = is_after (not (is_any answer)) parts

-- no label has the name of one before it, and there are not too many, where n calls and these labels stand before
abbrev pub AreNew : ℕ → List Label → List Part → Type 0
AreNew n labels [] = Unit {0}
AreNew n labels (Asks call ∷ parts) = AreNew (n + 1) labels parts
AreNew n labels (Stands name ∷ parts) = (has_label labels name ≡ false) × (length labels < most_labels) × AreNew n (labels ++ record { name = name; at = n } ∷ []) parts
AreNew n labels (Jumps answer name ∷ parts) = AreNew n labels parts

-- a source says this script: its calls, and a way for each of its jumps to the label of that name
pub record IsScript (source : Source) (s : Steps) : Type 0 where
  pub function : s.function ≡ source.function
  pub steps : s.steps ≡ calls_of source.parts
  pub ways : linked (labels_of 0 source.parts) (jumps_of 0 source.parts) ≡ Some s.ways
  pub placed : ArePlaced false source.parts
  pub new : AreNew 0 [] source.parts

abbrev pub AreScripts : List Source → List Steps → Type 0
AreScripts [] [] = Unit {0}
AreScripts (source ∷ sources) (s ∷ scripts) = IsScript source s × AreScripts sources scripts
AreScripts _ _ = ⊥

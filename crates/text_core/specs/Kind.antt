-- The words of the kinds of device, and which of them are televisions or have their behaviour from outside (own).
use Rattle.std.specs.Prelude.{List, [], ◌∷◌, ℕ, Option, find, codes, Bool, true, false}
use Rattle.std.specs.Str.{bytes_eq}
use Rattle.text_core.specs.declared.kind.Kind.{Kind}
use Rattle.text_core.specs.declared.kind.Kind.TheVariants.{Tv, Amp, Player, Recorder, Switch, Combo, Outside, OutsideTv}

abbrev pub kind_word : Kind → List ℕ
kind_word Tv = codes "tv"
kind_word Amp = codes "amp"
kind_word Player = codes "player"
kind_word Recorder = codes "recorder"
kind_word Switch = codes "switch"
kind_word Combo = codes "combo"
kind_word Outside = codes "outside"
kind_word OutsideTv = codes "outside-tv"

abbrev pub kinds : List Kind
kinds = Tv ∷ Amp ∷ Player ∷ Recorder ∷ Switch ∷ Combo ∷ Outside ∷ OutsideTv ∷ []

-- the kind that a word stands for
abbrev pub kind_named : List ℕ → Option Kind
kind_named word = find (λ kind. bytes_eq (kind_word kind) word) kinds

-- a television, the root of the tree of HDMI connections (HDMI 1.4, 8.7.2)
abbrev pub is_television : Kind → Bool
is_television Tv = true
is_television OutsideTv = true
is_television _ = false

-- a device from outside, whose behaviour is its driver's (own)
abbrev pub is_outside : Kind → Bool
is_outside Outside = true
is_outside OutsideTv = true
is_outside _ = false

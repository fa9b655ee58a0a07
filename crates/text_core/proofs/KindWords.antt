-- Words found in a list, by the word of what is found.
use Rattle.std.proofs.Common.{◌≡◌, ℕ, Bool, true, false, cond, List, [], ◌∷◌, find, Option, Some, refl, sym, subst}
use Rattle.std.specs.Str.{bytes_eq}
use Rattle.std.proofs.lemmas.Slice.Eq.{bytes_eq-Decides}
use Rattle.text_core.specs.Kind.{kind_named, kind_word}
use Rattle.text_core.specs.declared.kind.Kind.{Kind}
use Rattle.text_core.specs.declared.kind.Kind.TheVariants.{Tv, Amp, Player, Recorder, Switch, Combo, Outside, OutsideTv}

-- what is found passes the test
found_step : {T : Type 0} (p : T → Bool) (x w : T) (rest : Option T) (b : Bool) → p x ≡ b → (rest ≡ Some w → p w ≡ true) → cond b (Some x) rest ≡ Some w → p w ≡ true
found_step p x w rest true e later h = let same : x ≡ w = cc in subst (λ v. p v ≡ true) same e
found_step p x w rest false e later h = later h

pub found_passes : {T : Type 0} (p : T → Bool) (xs : List T) (w : T) → find p xs ≡ Some w → p w ≡ true
found_passes p [] w h = cc
found_passes p (x ∷ xs) w h = found_step p x w (find p xs) (p x) refl (found_passes p xs w) h

-- what is found by its word has that word
pub word_of_found : {T : Type 0} (text : T → List ℕ) (xs : List T) (word : List ℕ) (found : T) → find (λ x. bytes_eq (text x) word) xs ≡ Some found → word ≡ text found
word_of_found text xs word found h = sym ((bytes_eq-Decides (text found) word).0 (found_passes (λ x. bytes_eq (text x) word) xs found h))

pub kind_read_again : (kind : Kind) → kind_named (kind_word kind) ≡ Some kind
kind_read_again Tv = refl
kind_read_again Amp = refl
kind_read_again Player = refl
kind_read_again Recorder = refl
kind_read_again Switch = refl
kind_read_again Combo = refl
kind_read_again Outside = refl
kind_read_again OutsideTv = refl

-- Words that are those of a form are as long.
use Rattle.std.proofs.Common.{◌≡◌, ◌==◌, ◌&&◌, ◌||◌, Bool, true, false, if◌then◌else◌, List, [], ◌∷◌, ℕ, length, refl, sym, ap, ◌∙◌, true≢false, arith}
use Rattle.std.specs.Str.{bytes_eq}
use Rattle.std.proofs.lemmas.Slice.Eq.{bytes_eq-Decides}
use Rattle.std.proofs.lemmas.Bool.Decides.{nat_tests}
use Rattle.text_forms.specs.Forms.{Place, are_as_long, fits, is_as_long, is_itself, is_rest, is_whole, may_be}

same_length : (n m : ℕ) → n ≡ m → (n == m) ≡ true
same_length n m e = grind (arith, nat_tests)

other_bytes : (text word : List ℕ) → (length text == length word) ≡ false → bytes_eq text word ≡ false
other_bytes text word h = by (bytes_eq text word) refl
  where
    by : (b : Bool) → bytes_eq text word ≡ b → b ≡ false
    by true e = absurd (true≢false (sym (same_length (length text) (length word) (ap length ((bytes_eq-Decides text word).0 e))) ∙ h))
    by false e = refl

other_word : (itself other : Bool) (text word : List ℕ) → (if itself then length text == length word else true) ≡ false → (if itself then bytes_eq text word else other) ≡ false
other_word true other text word h = other_bytes text word h
other_word false other text word h = absurd (true≢false h)

-- a place or the places after it
either_none : (long more fit whole rest : Bool) → (long ≡ false → fit ≡ false) → (more ≡ false → whole ≡ false) → long && (rest || more) ≡ false → fit && (rest || whole) ≡ false
either_none false more fit whole rest f w h = rw (f refl) refl
either_none true more false whole rest f w h = refl
either_none true more true whole true f w h = h
either_none true more true whole false f w h = w h

pub none_whole : (ps : List Place) (ws : List (List ℕ)) → are_as_long ps ws ≡ false → is_whole ps ws ≡ false
unfolding are_as_long is_whole
none_whole [] [] h = h
none_whole [] (w ∷ ws) h = refl
none_whole (p ∷ ps) [] h = refl
none_whole (p ∷ ps) (w ∷ ws) h =
    either_none (is_as_long p w) (are_as_long ps ws) (fits p w) (is_whole ps ws) (is_rest p.0) (other_word (is_itself p.0) (may_be p.0 w) p.1 w) (none_whole ps ws) h

-- The bits of readings that are not complete, and the words of patterns that they meet. The slots of a block are eight of a byte, the
-- end-of-message bit (EOM) and the acknowledge bit (CEC 6, 6.1). Which bits a reading shows is this profile's own.
use Rattle.std.specs.Prelude.{◌≡◌, ℕ, zero, suc, ◌+◌, ◌-◌, ◌%◌, ◌==◌, ◌≤◌, nat_le, nat_lt, ◌&&◌, ◌||◌, not, Bool, true, false, if◌then◌else◌, codes, length, take, drop, List, [], ◌∷◌, Option, Some, None}
use Rattle.std.specs.List.{list_all, position_or_len}
use Rattle.line_frames.specs.declared.Ending.{Ending}
use Rattle.line_frames.specs.declared.Ending.TheVariants.{Silent, BadStart, Long}
use Rattle.expect_text.specs.Fits.{fits}

-- ---- the bits that there can be

-- A slot that nothing follows has its bit; what is too long has sixteen whole blocks; a bad start has no slot.
abbrev pub fewest : Ending → ℕ
fewest Silent = 1
fewest Long = 160
fewest _ = 0

abbrev pub most : Ending → ℕ
most BadStart = 0
most Long = 160
most _ = 159

abbrev pub is_eom : ℕ → Bool
is_eom place = place % 10 == 8

abbrev pub is_none : List Bool → Bool
is_none [] = true
is_none (bit ∷ bits) = false

-- An EOM of 1 has no bit after it: with its acknowledge bit the reading is complete. The first of these bits has this place.
abbrev pub goes_on : ℕ → List Bool → Bool
goes_on place [] = true
goes_on place (bit ∷ bits) = (not (bit && is_eom place) || is_none bits) && goes_on (place + 1) bits

-- a reading that ends so can have these bits
abbrev pub FitsEnding : Ending → List Bool → Type 0
FitsEnding ending bits = (fewest ending ≤ length bits) × (length bits ≤ most ending) × (goes_on 0 bits ≡ true)

-- ---- the words that they meet

-- there can be so many, and are some
abbrev pub may_have : Ending → ℕ → Bool
may_have ending count = nat_le 1 count && (nat_le (fewest ending) count && nat_le count (most ending))

abbrev pub are_stars : List ℕ → Bool
are_stars word = list_all (λ b. b == 42) word

-- Digits and stars from a place on can be bits of such a reading, as far as the next star. After an EOM of 1 stand stars alone.
abbrev pub stands : Ending → ℕ → List ℕ → Bool
stands ending place [] = may_have ending place
stands ending place (p ∷ ps) =
    if p == 42 then true
    else if p == 48 then nat_lt place (most ending) && stands ending (place + 1) ps
    else if p == 49 then nat_lt place (most ending) && (if is_eom place then are_stars ps && may_have ending (place + 1) else stands ending (place + 1) ps)
    else false

-- the first of so many places from which they can
abbrev pub first_place : Ending → ℕ → ℕ → List ℕ → Option ℕ
first_place ending place zero word = None
first_place ending place (suc count) word = if stands ending place word then Some place else first_place ending (place + 1) count word

abbrev pub from_found : (ℕ → Bool) → Option ℕ → Bool
from_found met None = false
from_found met (Some place) = met place

-- A word is met by bits of such a reading from a place on. A star takes as few of them as what stands before the next one allows.
abbrev pub meets_bits : Ending → ℕ → List ℕ → Bool
meets_bits ending place [] = may_have ending place
meets_bits ending place (p ∷ ps) =
    if p == 42 then from_found (λ n. meets_bits ending n ps) (first_place ending place (most ending + 1 - place) ps)
    else if p == 48 then nat_lt place (most ending) && meets_bits ending (place + 1) ps
    else if p == 49 then nat_lt place (most ending) && (if is_eom place then are_stars ps && may_have ending (place + 1) else meets_bits ending (place + 1) ps)
    else false

-- by a dash for none, or by bits
unfoldable pub is_word_met : Ending → List ℕ → Bool
is_word_met ending word = ((fewest ending == 0) && fits word (codes "-")) || meets_bits ending 0 word

abbrev pub word_length : List ℕ → ℕ
word_length text = position_or_len (λ b. b == 32) text

-- A pattern is met by what is shown of such a reading, which is a word, and by what stands after it.
abbrev pub bits_met : Ending → (List ℕ → Bool) → List ℕ → Bool
bits_met ending met pattern = is_word_met ending (take (word_length pattern) pattern) && met (drop (word_length pattern) pattern)

-- Laws of counts, of patterns and of words of states (own).
use Rattle.std.specs.Prelude.{◌≡◌, ℕ, ◌+◌, ◌↔◌, ◌&&◌, not, Bool, true, List}
use Rattle.expect_text.specs.declared.form.Bound.TheVariants.{Exactly, AtMost, AtLeast}
use Rattle.expect_text.specs.declared.form.Quantity.TheVariants.{Counted}
use Rattle.expect_text.specs.Form.{is_allowed}
use Rattle.expect_text.specs.Fits.{fits}
use Rattle.expect_text.specs.Said.{IsSaid, is_said}
use Rattle.expect_text.specs.Senders.{Judged}
use Rattle.expect_text.specs.Names.{for_names, is_meetable}
use Rattle.expect_text.specs.StateTest.{is_state_word}
use Rattle.expect_text.specs.StateWords.{IsStateWord}

-- `at most` a number allows what `at least` one more does not; `exactly` a number what both of these allow of it.
pub record CountsAreOfBounds : Type 0 where
  pub most : (number count : ℕ) → is_allowed (Counted AtMost number) count ≡ not (is_allowed (Counted AtLeast (number + 1)) count)
  pub exactly : (number count : ℕ) → is_allowed (Counted Exactly number) count ≡ (is_allowed (Counted AtMost number) count && is_allowed (Counted AtLeast number) count)

-- A pattern is refused exactly where no text that the line of a round, or of a reading of a capture, can have meets it: no frame's
-- text with a verdict, and no bits.
pub record PatternsAreMet : Type 0 where
  pub only : (who : Judged) (pattern text : List ℕ) → IsSaid who text → fits pattern text ≡ true → is_said who pattern ≡ true
  pub met : (who : Judged) (pattern : List ℕ) → is_said who pattern ≡ true → (text : List ℕ) × IsSaid who text × (fits pattern text ≡ true)

-- A pattern with names is refused exactly where no such text meets it with addresses below 15 in the place of the names, whichever the
-- devices hold.
pub record NamesAreMet : Type 0 where
  pub only : (who : Judged) (pattern text : List ℕ) (holds : List ℕ → ℕ → Bool) → IsSaid who text → for_names holds (λ p. fits p text) pattern ≡ true → is_meetable who pattern ≡ true
  pub met : (who : Judged) (pattern : List ℕ) → is_meetable who pattern ≡ true → (text : List ℕ) × IsSaid who text × (for_names (λ name b. true) (λ p. fits p text) pattern ≡ true)

-- A word of a state is refused exactly where no state line can have it.
abbrev pub StateWordsAreMet : Type 0
StateWordsAreMet = (word : List ℕ) → (is_state_word word ≡ true) ↔ IsStateWord word

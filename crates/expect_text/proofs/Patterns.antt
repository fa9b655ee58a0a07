-- A pattern is met by what the line of a round can say exactly where it is found to be.
use Rattle.std.proofs.Common.{◌≡◌, ℕ, true, List}
use Rattle.expect_text.specs.Fits.{fits}
use Rattle.expect_text.specs.Laws.{PatternsAreMet}
use Rattle.expect_text.specs.Said.{IsSaid, is_said}
use Rattle.expect_text.specs.Senders.{Judged}
use Rattle.expect_text.proofs.Framing.{spelled_is_said}
use Rattle.expect_text.proofs.Readings.{said_is_spelled}
use Rattle.expect_text.proofs.Saying.{said_only, said_some}

met : (who : Judged) (pattern : List ℕ) → is_said who pattern ≡ true → (text : List ℕ) × IsSaid who text × (fits pattern text ≡ true)
met who pattern h = let r = said_some who pattern h in (r.0, spelled_is_said who r.0 r.1, r.2)

pub patterns_are_met : PatternsAreMet
patterns_are_met = record { only = λ who pattern text said f. said_only who pattern text (said_is_spelled who text said) f; met = met }

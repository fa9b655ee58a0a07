-- Readings of which some are joined, as lines that go on.
use Rattle.std.proofs.Common.{◌≡◌, ℕ, ◌||◌, Bool, true, false, List, Some, refl, sym, ap, ◌∙◌}
use Rattle.line_reading.specs.Readings.{Listed}
use Rattle.capture_join.specs.Joined.{has_joined, joined_lines}
use Rattle.capture_join.proofs.JoinedLines.{begun_more, lines_from_more}
use Rattle.audit_core.proofs.Audited.{GoesOn}
pub use Rattle.capture_join.proofs.JoinedLines.{none_joined}

abbrev pub after_joined : ℕ → Bool → List Listed → Bool
after_joined t b xs = b || has_joined t xs

or_assoc : (a b c : Bool) → ((a || b) || c) ≡ (a || (b || c))
or_assoc true b c = refl
or_assoc false b c = refl

or_none : (b : Bool) → (b || false) ≡ b
or_none true = refl
or_none false = refl

pub joined_go_on : (t : ℕ) → GoesOn (joined_lines t) (after_joined t)
joined_go_on t = record {
  no_lines = λ b. refl;
  no_next = or_none;
  more_lines = lines_from_more (Some t);
  more_next = λ b xs ys. ap (λ (c : Bool). b || c) (begun_more (Some t) xs ys) ∙ sym (or_assoc b (has_joined t xs) (has_joined t ys));
}

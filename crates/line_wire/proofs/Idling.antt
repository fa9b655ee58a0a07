-- A receiver that stands on the line that is never low is idle.
use Rattle.std.proofs.Common.{◌≡◌, false, refl, ◌∙◌}
use Rattle.line_reading.specs.declared.receiver.Receiver.{Receiver}
use Rattle.line_reading.specs.Follows.{StandsOn}
use Rattle.line_reading.specs.Phase.{Idle, standing_of, standing_from}
use Rattle.line_reading.specs.Reading.{first_in}
use Rattle.line_wire.specs.Listening.{IsIdle}

idle_at_first : standing_of (λ u. false) 0 ≡ Idle
unfolding standing_from first_in
idle_at_first = refl

pub idle_on_high : (r : Receiver) → StandsOn r (λ u. false) 0 → IsIdle r
idle_on_high r s standing shows = shows (λ u. false) 0 s ∙ idle_at_first

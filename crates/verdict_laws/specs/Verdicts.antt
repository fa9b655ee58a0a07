-- The verdict of a line on which frames are sent with the nominal times.
use Rattle.std.specs.Prelude.{◌≡◌, ℕ, ◌==◌, if◌then◌else◌, List, [], ◌∷◌}
use Rattle.audit_widths.specs.Spreads.{sum_of}
use Rattle.capture_core.specs.Edges.{Captured, edges_of}
use Rattle.capture_verdict.specs.declared.verdict.Verdict.{Verdict}
use Rattle.capture_verdict.specs.declared.verdict.Verdict.TheVariants.{Empty, Idle, Fine}
use Rattle.capture_verdict.specs.Verdicts.{IsVerdict}
use Rattle.verdict_laws.specs.Sent.{AreSent, Sent, wave_of}

-- how many; a count stays at the greatest value that it has
abbrev pub count_of : List Sent → ℕ
count_of [] = 0
count_of (s ∷ ss) = sum_of 1 (count_of ss)

-- `fine`, and each frame in order; `idle` where nobody sends, `empty` where the capture takes no time either
abbrev pub verdict_for : ℕ → List Sent → Verdict
verdict_for end [] = if end == 0 then Empty else Idle end
verdict_for end (s ∷ ss) = Fine (count_of (s ∷ ss)) (count_of (s ∷ ss))

-- of a capture with the edges of such a line, whatever its end
abbrev pub SentLinesAreFine : Type 0
SentLinesAreFine = (c : Captured) (sent : List Sent) (v : Verdict) → AreSent sent → c.edges ≡ edges_of (wave_of sent) → IsVerdict c v → v ≡ verdict_for c.end sent

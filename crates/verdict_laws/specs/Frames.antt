-- A frame that is sent with the nominal times is one piece of the wide reading, of which nothing is remarked.
use Rattle.std.specs.Prelude.{◌≡◌, ℕ, ◌+◌, ◌/◌, ◌≤◌, true, false, List, [], ◌∷◌, ◌++◌, map, length, Option, None}
use Rattle.line_wave.specs.declared.Stretch.{Stretch}
use Rattle.line_wave.specs.Sender.{sender_stretches}
use Rattle.capture_core.specs.Edges.{edges_of}
use Rattle.audit_pieces.specs.Bounds.{apart_from}
use Rattle.audit_pieces.specs.declared.stretch.LowStretch.{LowStretch}
use Rattle.audit_pieces.specs.declared.piece.PieceEnding.TheVariants.{Complete}
use Rattle.audit_pieces.specs.Pieces.{Whole, is_framed}
use Rattle.audit_pieces.specs.Slots.{bit_of}
use Rattle.audit_pieces.specs.Stretches.{stretches_of}
use Rattle.audit_pieces.specs.Wide.{pieces_of}
use Rattle.audit_judged.specs.Endings.{goes_on_after, said_of}
use Rattle.audit_judged.specs.Widths.{width_remarks}
use Rattle.piece_audit.specs.Wide.{lows_from}
use Rattle.capture_signs.specs.Pieces.{is_allowed, is_mid}
use Rattle.verdict_laws.specs.Sent.{AreBlocks, AreSent, Sent, final_fall, is_last, wave_of}

-- the low stretches of a capture up to `end` with this line
abbrev pub heard : ℕ → List Stretch → List LowStretch
heard end ss = stretches_of end (lows_from (edges_of ss))

-- The piece of a frame: it begins with it and has its bits, and the capture does not begin in it. It is complete where its final block is the
-- last one. No width is out of its window, however finely the line was sampled (CEC 5.2), and how it ends has no remark (CEC 6.1, 7.1).
pub record IsFrameOf (s : Sent) (p : Whole) : Type 0 where
  pub begins : p.parts.head.fall ≡ s.begin
  pub framed : is_framed p.parts.head.class ≡ true
  pub bits : map bit_of p.parts.slots ≡ s.bits
  pub begun : is_mid p.ending ≡ false
  pub complete : is_last s.bits (length s.bits / 10) ≡ true → p.ending ≡ Complete
  pub widths : (grid : ℕ) → width_remarks grid p ≡ []
  pub ends : is_allowed (said_of p) ≡ true
  pub stops : goes_on_after p ≡ None

-- these stretches begin so late
abbrev pub BeginFrom : ℕ → List Stretch → Type 0
BeginFrom from [] = Unit {0}
BeginFrom from (s ∷ ss) = from ≤ s.from

-- Whatever line follows 6,000 after its final bit's fall, or none.
abbrev pub SentFramesArePieces : Type 0
SentFramesArePieces = (end : ℕ) (begin : Option ℕ) (s : Sent) (rest : List Stretch) → AreBlocks s.bits → BeginFrom (final_fall s + apart_from) rest
    → (p : Whole) × (pieces_of end begin (heard end (sender_stretches s.begin s.bits ++ rest)) ≡ p ∷ pieces_of end None (heard end rest)) × IsFrameOf s p

-- ---- one after another

abbrev pub AreFramesOf : List Sent → List Whole → Type 0
AreFramesOf [] [] = Unit {0}
AreFramesOf (s ∷ ss) (p ∷ ps) = IsFrameOf s p × AreFramesOf ss ps
AreFramesOf _ _ = ⊥

-- The pieces of such a line are its frames, in order, each once.
abbrev pub SentLinesAreFrames : Type 0
SentLinesAreFrames = (end : ℕ) (begin : Option ℕ) (sent : List Sent) → AreSent sent → AreFramesOf sent (pieces_of end begin (heard end (wave_of sent)))

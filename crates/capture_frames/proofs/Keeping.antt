-- The frames of a capture are those that are heard.
use Rattle.std.proofs.Common.{◌≡◌, Bool, true, false, if◌then◌else◌, map, List, [], ◌∷◌, ◌++◌, refl, sym, ap, ◌∙◌, append-nil}
use Rattle.line_frames.specs.declared.Reading.{Reading as ReadingRead}
use Rattle.line_reading.specs.Readings.{Listed}
use Rattle.line_reading.specs.Reports.{listed_as}
use Rattle.message_text.specs.ReadingText.{is_complete}
use Rattle.audit_notes.specs.Lines.AuditLine.{Reading}
use Rattle.capture_frames.specs.Frames.{FrameLine, frame_in, frame_told, frames_in}
use Rattle.capture_frames.specs.Heard.{KeepsFrames, frames_of}

pub all_heard : (xs : List Listed) → frames_of (map Reading xs) ≡ frames_in xs
all_heard [] = refl
all_heard (x ∷ xs) = ap (λ (frames : List FrameLine). frame_in x ++ frames) (all_heard xs)

-- a reading that is not complete is passed over
pub passed : (frames : List FrameLine) (full : Bool) (r : ReadingRead) → is_complete r.ending ≡ false → KeepsFrames frames full (Reading (listed_as r) ∷ []) frames full
passed frames full r e = λ room. (room, sym (ap (λ (b : Bool). frames ++ ((if b then frame_told r ∷ [] else []) ++ [])) e ∙ append-nil frames))

-- and the frame of a complete one is kept
pub kept : (old new : List FrameLine) (was is : Bool) (r : ReadingRead) → is_complete r.ending ≡ true → (is ≡ false → (was ≡ false) × (new ≡ old ++ frame_told r ∷ []))
    → KeepsFrames old was (Reading (listed_as r) ∷ []) new is
kept old new was is r e keeps = λ room. ((keeps room).0, (keeps room).1 ∙ sym (ap (λ (b : Bool). old ++ ((if b then frame_told r ∷ [] else []) ++ [])) e))

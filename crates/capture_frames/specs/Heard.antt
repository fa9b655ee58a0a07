-- Frames as they are heard (own).
use Rattle.std.specs.Prelude.{◌≡◌, Bool, false, List, [], ◌∷◌, ◌++◌}
use Rattle.std.specs.List.{flat_map}
use Rattle.std.proofs.Common.{refl, sym, ap, ◌∙◌, append-nil, append_assoc}
use Rattle.std.proofs.lemmas.Grind.{flat_map-append}
use Rattle.audit_notes.specs.Lines.{AuditLine}
use Rattle.audit_notes.specs.Lines.AuditLine.{Reading}
use Rattle.capture_frames.specs.Frames.{FrameLine, frame_in}

abbrev pub frame_of : AuditLine → List FrameLine
frame_of (Reading x) = frame_in x
frame_of line = []

abbrev pub frames_of : List AuditLine → List FrameLine
frames_of lines = flat_map frame_of lines

-- where memory did not run out, all are kept
abbrev pub KeepsFrames : List FrameLine → Bool → List AuditLine → List FrameLine → Bool → Type 0
KeepsFrames old was lines new is = is ≡ false → (was ≡ false) × (new ≡ old ++ frames_of lines)

-- ---- line by line

pub none_kept : (frames : List FrameLine) (full : Bool) → KeepsFrames frames full [] frames full
none_kept frames full = λ room. (room, sym (append-nil frames))

pub both_kept : (a b c : List FrameLine) (f g h : Bool) (xs ys : List AuditLine) → KeepsFrames a f xs b g → KeepsFrames b g ys c h → KeepsFrames a f (xs ++ ys) c h
both_kept a b c f g h xs ys first second = λ room.
    let later = second room in
    let before = first later.0 in
    (before.0, later.1 ∙ ap (λ (frames : List FrameLine). frames ++ frames_of ys) before.1 ∙ append_assoc a (frames_of xs) (frames_of ys) ∙ ap (λ (frames : List FrameLine). a ++ frames) (sym (flat_map-append frame_of xs ys)))

-- The lines of frames, added one after another.
use Rattle.std.proofs.Common.{◌≡◌, ℕ, ◌+◌, ◌≤◌, ◌==◌, Bool, if◌then◌else◌, arith, drop, get_or, length, length-drop, map, List, [], ◌∷◌, ◌++◌, refl, sym, ap, subst, ◌∙◌, append-nil, append_assoc}
use Rattle.text_core.specs.Adds.{Adds, Tally}
use Rattle.text_core.proofs.Adding.{nothing, then}
use Rattle.capture_as_test.specs.Lines.{first_line, frame_line, frames_text, later_line}
use Rattle.capture_as_test.specs.Pattern.{PatternText, pattern_of}
use Rattle.capture_as_test.specs.Timing.{duration}
use Rattle.capture_frames.specs.Frames.{FrameLine, frame_as}
use Rattle.capture_frames.specs.declared.frame.CapturedFrame.{CapturedFrame}

-- so much is added, and the lines of these frames are left
pub record AddsFront (a b : Tally) (number end : ℕ) (rest : List FrameLine) (whole : List ℕ) : Type 0 where
  pub done : List ℕ
  pub added : Adds a b done
  pub parts : done ++ frames_text number end rest ≡ whole

pub none_added : (a : Tally) (fs : List FrameLine) → AddsFront a a 0 0 fs (frames_text 0 0 fs)
none_added a fs = record { done = []; added = nothing a; parts = refl }

pub one_added : (a b c : Tally) (number end : ℕ) (f : FrameLine) (fs : List FrameLine) (whole : List ℕ) → AddsFront a b number end (f ∷ fs) whole → Adds b c (frame_line number end f)
    → AddsFront a c (number + 1) f.close fs whole
one_added a b c number end f fs whole before adds = record {
  done = before.done ++ frame_line number end f;
  added = (then) a b c before.done (frame_line number end f) before.added adds;
  parts = append_assoc before.done (frame_line number end f) (frames_text (number + 1) f.close fs) ∙ before.parts;
}

clash : 1 ≤ 0 → ⊥
clash h = omega (arith, h)

-- a list that is not empty has a first element
split_of : {X : Type 0} (xs : List X) (d : X) → 1 ≤ length xs → xs ≡ get_or xs 0 d ∷ drop 1 xs
split_of [] d h = absurd (clash h)
split_of (x ∷ xs) d h = refl

-- of a frame of the loop, which is the first of the rest
pub one_at : (a b c : Tally) (number end : ℕ) (rest : List CapturedFrame) (frame : CapturedFrame) (whole : List ℕ) → 1 ≤ length rest → get_or rest 0 frame ≡ frame
    → AddsFront a b number end (map frame_as rest) whole → Adds b c (frame_line number end (frame_as frame)) → AddsFront a c (number + 1) frame.close (map frame_as (drop 1 rest)) whole
one_at a b c number end rest frame whole h item before adds =
    one_added a b c number end (frame_as frame) (map frame_as (drop 1 rest)) whole
    (subst (λ (fs : List CapturedFrame). AddsFront a b number end (map frame_as fs) whole) (split_of rest frame h ∙ ap (λ (first : CapturedFrame). first ∷ drop 1 rest) item) before) adds

pub one_less : (number : ℕ) (rest : List CapturedFrame) (count : ℕ) → 1 ≤ length rest → number + length rest ≡ count → number + 1 + length (drop 1 rest) ≡ count
one_less number rest count h room = omega (arith, h, room, length-drop 1 rest)

pub all_added : (a b : Tally) (number end : ℕ) (rest : List CapturedFrame) (whole : List ℕ) → rest ≡ [] → AddsFront a b number end (map frame_as rest) whole → Adds a b whole
all_added a b number end rest whole none adds =
    subst (λ (text : List ℕ). Adds a b text)
    (sym (append-nil adds.done) ∙ ap (λ (fs : List CapturedFrame). adds.done ++ frames_text number end (map frame_as fs)) (sym none) ∙ adds.parts) adds.added

-- four texts, one after another
pub four : (a b c d e : Tally) (w x y z : List ℕ) → Adds a b w → Adds b c x → Adds c d y → Adds d e z → Adds a e (w ++ (x ++ (y ++ z)))
four a b c d e w x y z one two three last = (then) a b e w (x ++ (y ++ z)) one ((then) b c e x (y ++ z) two ((then) c d e y z three last))

-- a frame before which there is none
pub first_frame : (a b : Tally) (number end : ℕ) (f : FrameLine) (p : PatternText) → number ≡ 0 → p ≡ pattern_of f → Adds a b (first_line p) → Adds a b (frame_line number end f)
first_frame a b number end f p none same adds =
    subst (λ (text : List ℕ). Adds a b text)
    (ap first_line same
    ∙ sym (ap (λ (is : Bool). if is then first_line (pattern_of f) else later_line number (duration end f) (pattern_of f)) (ap (λ (n : ℕ). n == 0) none))) adds

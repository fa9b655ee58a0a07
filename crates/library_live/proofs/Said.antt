-- What of a session stands in memory.
use Rattle.std.proofs.Common.{◌≡◌, ℕ, Bool, List, [], ◌∷◌, ◌++◌, Option, Some, None, Ok, refl, sym, subst}
use Rattle.std.specs.Io.KnownBytes.{Appends}
use Rattle.live_session.specs.declared.live.Answered.{Answered}
use Rattle.live_session.specs.Command.{command_of}
use Rattle.live_session.specs.Session.{Session}
use Rattle.live_session.specs.Taken.{IsLineTaken}
use Rattle.live_session.specs.Whole.{kept_line, reported_of}
use Rattle.library_live.specs.declared.talk.Talk.{Talk}
use Rattle.library_live.specs.Live.{IsSaid, IsTalkBegun}

-- what was put to a sink in memory that was empty is its text
pub text_is : (old new : Option (List ℕ)) (bytes text : List ℕ) → old ≡ Some [] → new ≡ Some bytes → Appends old new text → bytes ≡ text
text_is old new bytes text first last put = subst (λ (old : Option (List ℕ)). Appends old (Some bytes) text) first (subst (λ (new : Option (List ℕ)). Appends old new text) last put)

-- a line that was taken was answered by what was put
pub said : (s t : Session) (line bytes : List ℕ) (answered : Answered) (was is : Bool) (old new : Option (List ℕ)) → s.notes.end ≡ None → old ≡ Some [] → new ≡ Some bytes → IsLineTaken s line t old new was is (Ok answered) → IsSaid s line t bytes
said s t line bytes answered was is old new going first last (asked, asks, (text, due, len, put, flag)) =
    subst (λ (text : List ℕ). IsSaid s line t text) (sym (text_is old new bytes text first last put)) (
      kept_line (command_of s.tree line) answered.step line,
      reported_of answered.step asked text t due,
      record { goes_on = going; step = answered.step; asked = asked; asks = asks; due = due; kept_is = refl; reported_is = refl },
    )

-- a session that is put on the heap stays one that has begun
pub begun_in : (topology : List ℕ) (talk boxed : Talk) → boxed ≡ talk → IsTalkBegun topology (Ok talk) → IsTalkBegun topology (Ok boxed)
begun_in topology talk boxed same begun = subst (λ (talk : Talk). IsTalkBegun topology (Ok talk)) (sym same) begun

-- What is told of the first device, and then of the others.
use Rattle.std.proofs.Common.{◌≡◌, ℕ, ◌+◌, ◌≤◌, Bool, List, [], ◌∷◌, ◌++◌, length, get_or, drop, subst, arith}
use Rattle.text_core.specs.Adds.{Adds, Tally}
use Rattle.text_core.proofs.Adding.{then}
use Rattle.line_rounds.specs.declared.Outcome.{Outcome}
use Rattle.device_core.specs.State.{State}
use Rattle.record_core.specs.declared.cell.Form.{Form}
use Rattle.room_trace.specs.Notes.{moved_note, moved_notes, sent_note_of, sent_notes}

pub sent_first : (form : Form) (o : Outcome) (n : ℕ) (d none : State) (ds : List State) (a b c : Tally) → 1 ≤ length ds → d ≡ get_or ds 0 none
    → Adds a b (sent_note_of form o n d) → Adds b c (sent_notes form o (n + 1) (drop 1 ds)) → Adds a c (sent_notes form o n ds)
sent_first form o n d none [] a b c h e first others = absurd (omega arith)
sent_first form o n d none (x ∷ xs) a b c h e first others =
    subst (λ (k : State). Adds a c (sent_note_of form o n k ++ sent_notes form o (n + 1) xs)) e
    (then a b c (sent_note_of form o n d) (sent_notes form o (n + 1) xs) first others)

pub moved_first : (form : Form) (was : ℕ → Bool) (n : ℕ) (is : Bool) (d none : State) (ds : List State) (a b c : Tally) → 1 ≤ length ds → d ≡ get_or ds 0 none
    → is ≡ was n → Adds a b (moved_note form is d) → Adds b c (moved_notes form was (n + 1) (drop 1 ds)) → Adds a c (moved_notes form was n ds)
moved_first form was n is d none [] a b c h e same first others = absurd (omega arith)
moved_first form was n is d none (x ∷ xs) a b c h e same first others =
    subst (λ (k : State). Adds a c (moved_note form (was n) k ++ moved_notes form was (n + 1) xs)) e
    (then a b c (moved_note form (was n) d) (moved_notes form was (n + 1) xs)
    (subst (λ (v : Bool). Adds a b (moved_note form v d)) same first) others)

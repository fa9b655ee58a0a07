-- What a step has done, told of its own text as of that of a round.
use Rattle.std.proofs.Common.{◌≡◌, ℕ, zero, suc, ◌⊎◌, inl, inr, Bool, true, List, slice_get, Option, Some, Result, Ok, Err, ap, ◌∙◌, sym, refl, subst, arith}
use Rattle.line_rounds.specs.declared.Outcome.{Outcome}
use Rattle.text_core.specs.declared.sink.WriteFault.{WriteFault}
use Rattle.text_core.specs.Cut.{WrittenText}
use Rattle.device_core.specs.State.{State}
use Rattle.record_core.specs.declared.cell.Form.{Form}
use Rattle.room_trace.specs.Records.{state_text}
use Rattle.room_step_text.specs.declared.break_at.Break.{Break}
use Rattle.room_step_text.specs.Stops.{stops}
use Rattle.room_steps.specs.declared.stepper.StepError.{StepError}
use Rattle.room_steps.specs.declared.stepper.StepError.TheVariants.{Ended, Write}
use Rattle.room_steps.specs.declared.position.RunInput.{RunInput}
use Rattle.room_steps.specs.declared.position.Position.{Position}
use Rattle.room_steps.specs.Ready.{Brings, point_of, run_of}
use Rattle.room_steps.specs.Steps.{Point, Run, Steps, IsNever, IsOver, IsRound, IsRoundStep, IsShown, IsTaken, IsUntil, Skips, after_round, shown_net, step_text}

-- a step that gives what another gives
pub taken_as : (Gives Other : List ℕ → Steps → Type 0) (Over More : Type 0) (s t : Steps) (old new : Option (List ℕ)) (r : Result ℕ StepError)
    → ((text : List ℕ) (u : Steps) → Gives text u → Other text u) → (Over → More) → IsTaken Gives Over s t old new r → IsTaken Other More s t old new r
taken_as Gives Other Over More s t old new (Ok reported) f o (text, gives, counted, wrote) = (text, f text t gives, counted, wrote)
taken_as Gives Other Over More s t old new (Err Ended) f o (over, same, none) = (o over, same, none)
taken_as Gives Other Over More s t old new (Err (Write reported)) f o (same, text, after, gives, count, short, counted, wrote) = (same, text, after, f text after gives, count, short, counted, wrote)

pub taken_round : (s t : Steps) (before after : Point) (o : Outcome) (old new : Option (List ℕ)) (r : Result ℕ StepError) → before ≡ s.last → IsRoundStep s.run.end before o after
    → IsTaken (λ text u. (text ≡ step_text s.run before o after) × (u ≡ after_round s after)) ⊥ s t old new r
    → IsTaken (IsRound s) (IsOver s.run.end s.last) s t old new r
taken_round s t before after o old new r same step taken =
    taken_as (λ text u. (text ≡ step_text s.run before o after) × (u ≡ after_round s after)) (IsRound s) ⊥ (IsOver s.run.end s.last) s t old new r
    (λ text u given. (o, after, subst (λ p. IsRoundStep s.run.end p o after) same step, given.0 ∙ ap (λ p. step_text s.run p o after) same, given.1)) (λ none. absurd none) taken

pub taken_until : (s t : Steps) (at : Break) (rounds : ℕ) (before after : Point) (o : Outcome) (old new : Option (List ℕ)) (r : Result ℕ StepError) → Skips s.run.end at rounds s.last before
    → IsRoundStep s.run.end before o after → stops at o ≡ true
    → IsTaken (λ text u. (text ≡ step_text s.run before o after) × (u ≡ after_round s after)) ⊥ s t old new r
    → IsTaken (IsUntil s at) (IsNever s at) s t old new r
taken_until s t at rounds before after o old new r skips step stop taken =
    taken_as (λ text u. (text ≡ step_text s.run before o after) × (u ≡ after_round s after)) (IsUntil s at) ⊥ (IsNever s at) s t old new r
    (λ text u given. record { rounds = rounds; before = before; after = after; outcome = o; skips = skips; step = step; stop = stop; reported = given.0; stands = given.1 }) (λ none. absurd none) taken

-- a state line was written, or cut off
pub shown_reported : (s : Steps) (device : ℕ) (form : Form) (d : State) (old new : Option (List ℕ)) (was is : Bool) (n : ℕ) → form ≡ s.run.form → slice_get (shown_net s).devices device ≡ Some d
    → WrittenText old new was is (state_text form d) (Ok n) → IsTaken (IsShown s device) ⊥ s s old new (Ok n)
shown_reported s device form d old new was is n formed found (counted, wrote, flag) =
    (state_text form d, (d, found, ap (λ (f : Form). state_text f d) formed, refl), counted, wrote)

pub shown_cut : (s : Steps) (device : ℕ) (form : Form) (d : State) (old new : Option (List ℕ)) (was is : Bool) (fault : WriteFault) (error : StepError) → form ≡ s.run.form → slice_get (shown_net s).devices device ≡ Some d
    → error ≡ Write fault.count → WrittenText old new was is (state_text form d) (Err fault) → IsTaken (IsShown s device) ⊥ s s old new (Err error)
shown_cut s device form d old new was is fault error formed found same ((count, short, reported, wrote), flag) =
    let here : IsTaken (IsShown s device) ⊥ s s old new (Err (Write fault.count)) = (refl, state_text form d, s, (d, found, ap (λ (f : Form). state_text f d) formed, refl), count, short, reported, wrote) in
    subst (λ x. IsTaken (IsShown s device) ⊥ s s old new (Err x)) (sym same) here

-- rounds after others, none of which stops a search
pub skips_then : (end : ℕ) (at : Break) (n m : ℕ) (p mid q : Point) → Skips end at n p mid → Skips end at m mid q → (rounds : ℕ) × Skips end at rounds p q
skips_then end at n zero p mid q h k = (n, subst (λ x. Skips end at n p x) (sym k) h)
skips_then end at n (suc m) p mid q h (next, o, skips, step, other) =
    let before = skips_then end at n m p mid next h skips in
    (suc before.0, (next, o, before.1, step, other))

-- a round brings the rest on, and so do others before it, if any
pub brings_then : (end counter : ℕ) (p mid q : Point) → ((counter ≡ 0) × (mid ≡ p)) ⊎ Brings end p mid → Brings end mid q → Brings end p q
brings_then end counter p mid q (inl (none, same)) k = subst (λ x. Brings end x q) same k
brings_then end counter p mid q (inr h) k = record { before = h.before; later = omega (arith, h.later, k.later) }

-- a round from a copy of a position, in the run that a stepper shows
pub step_from : (input : RunInput) (run : Run) (copy here next : Position) (o : Outcome) → run_of input ≡ run → point_of input.events.items copy ≡ point_of input.events.items here
    → IsRoundStep input.end (point_of input.events.items copy) o (point_of input.events.items next) → IsRoundStep run.end (point_of run.events here) o (point_of run.events next)
step_from input run copy here next o shown same step =
    subst (λ (r : Run). IsRoundStep r.end (point_of r.events here) o (point_of r.events next)) shown
    (subst (λ (p : Point). IsRoundStep input.end p o (point_of input.events.items next)) same step)

pub brings_from : (input : RunInput) (run : Run) (copy here next : Position) → run_of input ≡ run → point_of input.events.items copy ≡ point_of input.events.items here
    → Brings input.end (point_of input.events.items copy) (point_of input.events.items next) → Brings run.end (point_of run.events here) (point_of run.events next)
brings_from input run copy here next shown same brings =
    subst (λ (r : Run). Brings r.end (point_of r.events here) (point_of r.events next)) shown
    (subst (λ (p : Point). Brings input.end p (point_of input.events.items next)) same brings)

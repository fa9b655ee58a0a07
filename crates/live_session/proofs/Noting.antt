-- A line of the script, from what it says to what becomes of it.
use Rattle.std.proofs.Common.{◌≡◌, ℕ, zero, suc, ◌+◌, ◌≤◌, ◌||◌, ◌⊎◌, Bool, true, false, if◌then◌else◌, List, [], ◌∷◌, ◌++◌, length, length-append, drop, take, inl, inr, Option, Some, None, Result, Ok, Err, refl, sym, ap, subst, ◌∙◌, arith, append-nil}
use Rattle.std.proofs.lemmas.List.Prefix.{front_rest}
use Rattle.line_wave.specs.declared.Stretch.{Stretch}
use Rattle.line_wave.specs.Bounds.{latest_event}
use Rattle.room_net.specs.State.{NetState}
use Rattle.room_script.specs.Script.{Notes, IsLineRead}
use Rattle.room_script.specs.declared.script.TimedEvent.{TimedEvent}
use Rattle.room_script.specs.Lines.{AreSound, Extends}
use Rattle.room_script.proofs.Sound.{line-keeps}
use Rattle.text_core.specs.declared.at.AtWord.{AtWord}
use Rattle.room_script.specs.declared.script.ScriptCause.{ScriptCause}
use Rattle.room_run.specs.Certain.{with_pulses}
use Rattle.live_session.specs.declared.answer.RefusalCause.TheVariants.{Past}
use Rattle.live_session.specs.declared.live.Step.TheVariants.{Go, Finish}
use Rattle.live_session.specs.Command.{pin_time}
use Rattle.live_session.specs.Note.{IsSettled}
use Rattle.live_session.specs.Session.{Session, Standing, IsReady, refuse, standing, with_standing, standing_with, step_by, is_late, is_past, refuses_pulse, horizon_by, new_events, new_pulses}
use Rattle.live_session.proofs.Extends.{line_extends, front_all}

-- ---- what becomes of a line

abbrev back : Notes → Notes → Notes
back old new = record { events = take (length old.events) new.events; pulses = take (length old.pulses) new.pulses; end = None; pin = old.pin }

back_is : (old new : Notes) → Extends old new → old.end ≡ None → back old new ≡ old
back_is old new e none = λ i. record {
  events = front_all old.events e.events new.events e.events_are i;
  pulses = front_all old.pulses e.pulses new.pulses e.pulses_are i;
  end = sym none i;
  pin = old.pin;
}

abbrev pub taken : Standing → Notes → Standing
taken s new = record { notes = new; horizon = horizon_by s.horizon new.end; net = with_pulses (new_pulses s.notes new) s.net }

settled_late : (s : Standing) (given : Option ℕ) (new : Notes) → Extends s.notes new → s.notes.end ≡ None → is_late s given new ≡ true
    → IsSettled s given (Ok new) (refuse 1 Past) (record { notes = back s.notes new; horizon = s.horizon; net = s.net })
settled_late s given new e none late = record {
  asks = sym (ap (λ b. if b then refuse 1 Past else step_by new.end) late);
  stands = ap (λ (n : Notes). let t : Standing = record { notes = n; horizon = s.horizon; net = s.net } in t) (back_is s.notes new e none) ∙ sym (ap (λ b. if b then s else taken s new) late);
}

or_true : (a b : Bool) → a ≡ true → (a || b) ≡ true
or_true true b e = refl
or_true false b e = cc

or_else : (a b : Bool) → a ≡ false → b ≡ true → (a || b) ≡ true
or_else true b e f = refl
or_else false b e f = f

or_none : (a b : Bool) → a ≡ false → b ≡ false → (a || b) ≡ false
or_none true b e f = e
or_none false b e f = f

pub settled_past : (old new : Notes) (given : Option ℕ) (horizon : ℕ) (net : NetState) → Extends old new → old.end ≡ None → is_past horizon given old new ≡ true
    → IsSettled (record { notes = old; horizon = horizon; net = net }) given (Ok new) (refuse 1 Past) (record { notes = back old new; horizon = horizon; net = net })
settled_past old new given horizon net e none past =
    settled_late (record { notes = old; horizon = horizon; net = net }) given new e none (or_true (is_past horizon given old new) (refuses_pulse (new_pulses old new) net) past)

pub settled_refused : (old new : Notes) (given : Option ℕ) (horizon : ℕ) (net : NetState) → Extends old new → old.end ≡ None → is_past horizon given old new ≡ false
    → refuses_pulse (new_pulses old new) net ≡ true → IsSettled (record { notes = old; horizon = horizon; net = net }) given (Ok new) (refuse 1 Past) (record { notes = back old new; horizon = horizon; net = net })
settled_refused old new given horizon net e none past refused =
    settled_late (record { notes = old; horizon = horizon; net = net }) given new e none (or_else (is_past horizon given old new) (refuses_pulse (new_pulses old new) net) past refused)

settled_taken : (s : Standing) (given : Option ℕ) (new : Notes) → is_late s given new ≡ false → IsSettled s given (Ok new) (step_by new.end) (taken s new)
settled_taken s given new late = record {
  asks = sym (ap (λ b. if b then refuse 1 Past else step_by new.end) late);
  stands = sym (ap (λ b. if b then s else taken s new) late);
}

pub settled_go : (old new : Notes) (given : Option ℕ) (horizon : ℕ) (net : NetState) → is_past horizon given old new ≡ false → refuses_pulse (new_pulses old new) net ≡ false → new.end ≡ None
    → IsSettled (record { notes = old; horizon = horizon; net = net }) given (Ok new) Go (record { notes = new; horizon = horizon; net = with_pulses (new_pulses old new) net })
settled_go old new given horizon net past refused end =
    let s : Standing = record { notes = old; horizon = horizon; net = net } in
    subst (λ (end : Option ℕ). IsSettled s given (Ok new) (step_by end) (record { notes = new; horizon = horizon_by horizon end; net = with_pulses (new_pulses old new) net })) end
    (settled_taken s given new (or_none (is_past horizon given old new) (refuses_pulse (new_pulses old new) net) past refused))

pub settled_finish : (old new : Notes) (given : Option ℕ) (horizon end : ℕ) (net : NetState) → is_past horizon given old new ≡ false → refuses_pulse (new_pulses old new) net ≡ false → new.end ≡ Some end
    → IsSettled (record { notes = old; horizon = horizon; net = net }) given (Ok new) Finish (record { notes = new; horizon = end; net = with_pulses (new_pulses old new) net })
settled_finish old new given horizon end net past refused is =
    let s : Standing = record { notes = old; horizon = horizon; net = net } in
    subst (λ (end : Option ℕ). IsSettled s given (Ok new) (step_by end) (record { notes = new; horizon = horizon_by horizon end; net = with_pulses (new_pulses old new) net })) is
    (settled_taken s given new (or_none (is_past horizon given old new) (refuses_pulse (new_pulses old new) net) past refused))

pub only_one : (p : Stretch) (others : List Stretch) → length (p ∷ others) ≤ 1 → p ∷ others ≡ p ∷ []
only_one p [] few = refl
only_one p (q ∷ others) few = absurd (omega (arith, few))

-- ---- a session stays ready

noted_cases : (s : Standing) (given : Option ℕ) (new : Notes) (late : Bool) → is_late s given new ≡ late → (standing_with s given (Ok new) ≡ s) ⊎ (standing_with s given (Ok new) ≡ taken s new)
noted_cases s given new true e = inl (ap (λ b. if b then s else taken s new) e)
noted_cases s given new false e = inr (ap (λ b. if b then s else taken s new) e)

pub drop_all : (xs : List TimedEvent) → drop (length xs) xs ≡ []
drop_all [] = refl
drop_all (x ∷ xs) = drop_all xs

drop_front : (n : ℕ) (xs ys : List TimedEvent) → n ≤ length xs → drop n (xs ++ ys) ≡ drop n xs ++ ys
drop_front zero xs ys few = refl
drop_front (suc n) [] ys few = absurd (omega (arith, few))
drop_front (suc n) (x ∷ xs) ys few = drop_front n xs ys (omega (arith, few))

-- what a line of the script leaves
pub record IsKept (s : Session) (t : Standing) (applied : ℕ) : Type 0 where
  pub ready : IsReady (with_standing s t)
  pub few : applied ≤ length t.notes.events
  pub left : drop applied t.notes.events ≡ s.place.events ++ new_events s.notes t.notes

pub kept_same : (s : Session) (applied : ℕ) → s.place.events ≡ drop applied s.notes.events → applied ≤ length s.notes.events → IsReady s → IsKept s (standing s) applied
kept_same s applied left few r =
    let none : s.place.events ++ new_events s.notes s.notes ≡ s.place.events = ap (λ (es : List TimedEvent). s.place.events ++ es) (drop_all s.notes.events) ∙ append-nil s.place.events in
    record {
      ready = record {
        fit = r.fit;
        matched = r.matched;
        early = r.early;
        within = record { closed = r.within.closed; rested = r.within.rested; rounds = r.within.rounds; complete = r.within.complete };
        refused = (let same = ap length none in let most = r.refused in omega (arith, same, most));
      };
      few = few;
      left = sym left ∙ sym none;
    }

horizon_early : (count horizon : ℕ) (notes : Notes) (end : Option ℕ) → notes.end ≡ end → AreSound count notes → horizon ≤ latest_event → horizon_by horizon end ≤ latest_event
horizon_early count horizon notes None e f early = early
horizon_early count horizon notes (Some end) e f early = (f.ended end e).1

kept_taken : (s : Session) (new : Notes) (line : List ℕ) (applied : ℕ) → s.place.events ≡ drop applied s.notes.events → applied ≤ length s.notes.events → IsReady s
    → IsLineRead s.tree s.notes (length s.place.net.pulses) s.lines line (Ok new) → IsKept s (taken (standing s) new) applied
kept_taken s new line applied left few r read =
    let e = line_extends s.tree s.notes (length s.place.net.pulses) s.lines line new read in
    let added : new_events s.notes new ≡ e.events = front_rest new.events s.notes.events e.events e.events_are in
    let fit = line-keeps s.tree s.notes (length s.place.net.pulses) s.lines line new r.fit read in
    let long : length new.events ≡ length s.notes.events + length e.events = ap length e.events_are ∙ length-append s.notes.events e.events in
    let place : length (s.place.events ++ new_events s.notes new) ≡ length s.place.events + length e.events =
    ap (λ (es : List TimedEvent). length (s.place.events ++ es)) added ∙ length-append s.place.events e.events in
    record {
      ready = record {
        fit = fit;
        matched = r.matched;
        early = horizon_early (length s.tree) s.horizon new new.end refl fit r.early;
        within = record { closed = r.within.closed; rested = r.within.rested; rounds = r.within.rounds; complete = r.within.complete };
        refused = (let most = r.refused in omega (arith, long, place, most));
      };
      few = omega (arith, long, few);
      left = ap (drop applied) e.events_are ∙ drop_front applied s.notes.events e.events few ∙ ap (λ (es : List TimedEvent). es ++ e.events) (sym left)
          ∙ ap (λ (es : List TimedEvent). s.place.events ++ es) (sym added);
    }

pub kept : (s : Session) (t : Standing) (line : List ℕ) (applied : ℕ) (read : Result Notes (AtWord ScriptCause)) → s.place.events ≡ drop applied s.notes.events → applied ≤ length s.notes.events → IsReady s
    → IsLineRead s.tree s.notes (length s.place.net.pulses) s.lines line read → t ≡ standing_with (standing s) (pin_time line) read → IsKept s t applied
kept s t line applied (Err fault) left few r read e = subst (λ (t : Standing). IsKept s t applied) (sym e) (kept_same s applied left few r)
kept s t line applied (Ok new) left few r read e =
    elim (noted_cases (standing s) (pin_time line) new (is_late (standing s) (pin_time line) new) refl) [
      | inl same ↦ subst (λ (t : Standing). IsKept s t applied) (sym (e ∙ same)) (kept_same s applied left few r)
      | inr more ↦ subst (λ (t : Standing). IsKept s t applied) (sym (e ∙ more)) (kept_taken s new line applied left few r read)
    ]

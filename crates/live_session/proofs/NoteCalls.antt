-- A line of the script, from what the calls give to what a session has.
use Rattle.std.proofs.Common.{◌≡◌, ℕ, ◌≤◌, ◌∙◌, List, ◌++◌, length, drop, Option, Some, None, MatchOption, IfSome, Bool, true, false, if◌then◌else◌, Result, Ok, Err, refl, sym, ap, subst, append-nil}
use Rattle.edid_tree.specs.Node.{Node}
use Rattle.room_net.specs.State.{NetState}
use Rattle.room_script.specs.Script.{Notes, Gives, IsLineRead}
use Rattle.room_script.specs.declared.script.TimedEvent.{TimedEvent}
use Rattle.text_core.specs.declared.at.AtWord.{AtWord}
use Rattle.room_script.specs.declared.script.ScriptCause.{ScriptCause}
use Rattle.room_script.specs.declared.script.ScriptLineError.{ScriptLineError}
use Rattle.room_script.specs.declared.script.ScriptLineError.TheVariants.{Fault, Memory}
use Rattle.live_session.specs.declared.answer.RefusalCause.TheVariants.{Past}
use Rattle.live_session.specs.declared.live.Step.{Step}
use Rattle.live_session.specs.Command.{pin_time}
use Rattle.live_session.specs.Note.{IsSettled, refused_by}
use Rattle.live_session.specs.Session.{Session, Standing, IsReady, NamesShown, is_late, refuse, standing, step_by, step_noted, with_standing}
use Rattle.live_session.proofs.Noting.{IsKept, kept, kept_same, drop_all}

-- a line that the draft has not taken
pub refused_note : (tree : List Node) (waiting number : ℕ) (line : List ℕ) (old new : Notes) (horizon : ℕ) (net : NetState) (error : ScriptLineError) → Gives new (Err error) (IsLineRead tree old waiting number line) → new ≡ old
    → MatchOption (refused_by error) ((new ≡ old) × (horizon ≡ horizon) × (net ≡ net))
    (λ step. (read : Result Notes (AtWord ScriptCause)) × IsLineRead tree old waiting number line read
    × IsSettled (record { notes = old; horizon = horizon; net = net }) (pin_time line) read step (record { notes = new; horizon = horizon; net = net }))
refused_note tree waiting number line old new horizon net Memory gives same = (same, refl, refl)
refused_note tree waiting number line old new horizon net (Fault fault) gives same =
    (Err fault, gives, record { asks = refl; stands = ap (λ (n : Notes). let t : Standing = record { notes = n; horizon = horizon; net = net } in t) same })

-- what the call of a line gives
abbrev pub NotedBy : Session → Standing → List ℕ → Option Step → Type 0
NotedBy s t line result =
    MatchOption result ((t.notes ≡ s.notes) × (t.horizon ≡ s.horizon) × (t.net ≡ s.place.net))
    (λ step. (read : Result Notes (AtWord ScriptCause)) × IsLineRead s.tree s.notes (length s.place.net.pulses) s.lines line read × IsSettled (standing s) (pin_time line) read step t)

same_standing : (s : Session) (t : Standing) → (t.notes ≡ s.notes) × (t.horizon ≡ s.horizon) × (t.net ≡ s.place.net) → t ≡ standing s
same_standing s t e = λ i. record { notes = e.0 i; horizon = e.1 i; net = e.2 i }

pub note_kept : (s : Session) (t : Standing) (line : List ℕ) (applied : ℕ) (result : Option Step) → s.place.events ≡ drop applied s.notes.events → applied ≤ length s.notes.events → IsReady s
    → NotedBy s t line result → IsKept s t applied
note_kept s t line applied None left few r e = subst (λ (t : Standing). IsKept s t applied) (sym (same_standing s t e)) (kept_same s applied left few r)
note_kept s t line applied (Some step) left few r e = kept s t line applied e.0 left few r e.1 e.2.stands

stays : (s : Session) → with_standing s (standing s) ≡ s
stays s =
    ap (λ (es : List TimedEvent). let t : Session = record s { place = record s.place { events = es } } in t)
    (ap (λ (es : List TimedEvent). s.place.events ++ es) (drop_all s.notes.events) ∙ append-nil s.place.events)

abbrev pub Noted : Session → Session → List ℕ → Option Step → Type 0
Noted s v line result =
    MatchOption result (v ≡ s)
    (λ step. (read : Result Notes (AtWord ScriptCause)) × IsLineRead s.tree s.notes (length s.place.net.pulses) s.lines line read × IsSettled (standing s) (pin_time line) read step (standing v) × (v ≡ with_standing s (standing v)))

noted_with : (s : Session) (t : Standing) (line : List ℕ) (result : Option Step) → NotedBy s t line result → Noted s (with_standing s t) line result
noted_with s t line None e = ap (with_standing s) (same_standing s t e) ∙ stays s
noted_with s t line (Some step) e = (e.0, e.1, e.2, refl)

pub noted_is : (s now v : Session) (t : Standing) (line : List ℕ) (result : Option Step) → s ≡ now → v ≡ with_standing s t → NotedBy s t line result → Noted now v line result
noted_is s now v t line result same is e =
    subst (λ (s : Session). Noted s v line result) same (subst (λ (v : Session). Noted s v line result) (sym is) (noted_with s t line result e))

-- none of its steps shows a device
shows_none : (count : ℕ) (s : Standing) (given : Option ℕ) (read : Result Notes (AtWord ScriptCause)) → NamesShown count (step_noted s given read)
shows_none count s given (Err fault) = tt
shows_none count s given (Ok new) = by_late (is_late s given new)
  where
    by_end : (end : Option ℕ) → NamesShown count (step_by end)
    by_end None = tt
    by_end (Some end) = tt

    by_late : (late : Bool) → NamesShown count (if late then refuse 1 Past else step_by new.end)
    by_late true = tt
    by_late false = by_end new.end

pub note_shows : (count : ℕ) (s v : Session) (line : List ℕ) (result : Option Step) → Noted s v line result → IfSome result (λ step. NamesShown count step)
note_shows count s v line None e = tt
note_shows count s v line (Some step) e = subst (λ (step : Step). NamesShown count step) (sym e.2.asks) (shows_none count (standing s) (pin_time line) e.0)

-- What is told of a run is its trace.
use Rattle.std.proofs.Common.{◌≡◌, ℕ, true, false, List, [], ◌∷◌, ◌++◌, map, Option, Some, None, codes, refl, sym, ap, ap₂, ◌∙◌, append_assoc, append-nil}
use Rattle.std.specs.Fmt.{decimal}
use Rattle.std.specs.List.{flat_map}
use Rattle.line_frames.specs.declared.Ending.{Ending}
use Rattle.line_frames.specs.declared.Ending.TheVariants.{Complete, Short, Silent, BadStart, Long, Open}
use Rattle.line_rounds.specs.declared.Outcome.{Outcome}
use Rattle.line_rounds.proofs.OneOutcome.{one_outcome}
use Rattle.device_core.specs.State.{State}
use Rattle.edid_core.specs.declared.edid.Edid.{Edid}
use Rattle.edid_tree.specs.Path.{is_on_wire}
use Rattle.message_text.specs.ReadingText.{ending_text, is_complete, reported_text, verdict_text}
use Rattle.room_event.specs.declared.event.EventError.{EventError}
use Rattle.room_net.specs.State.{first_net}
use Rattle.room_net.specs.Apply.{event_fault, net_after}
use Rattle.room_script.specs.declared.script.TimedEvent.{TimedEvent}
use Rattle.room_trace.specs.PortText.{port_lines}
use Rattle.room_trace.specs.TraceText.{comma_list, event_line, loser_text, name_at, round_line}
use Rattle.room_run.specs.declared.run.Reporting.TheVariants.{Trace}
use Rattle.room_run.specs.Happening.{Happening, text_of}
use Rattle.room_run.specs.Happening.Happening.{OfEvent, OfRound}
use Rattle.room_run.specs.Run.{end_reported, start, start_reported}
use Rattle.room_run.specs.Turns.{RunsAreTold, TracesSay}
use Rattle.expect_told.specs.Said.{ending_said}
use Rattle.expect_told.specs.Senders.{senders_text}
use Rattle.record_core.specs.declared.cell.Form.TheVariants.{Text}
use Rattle.expect_told.specs.Turns.{event_told, round_told, sent_said}
use Rattle.judge_laws.specs.Told.{TracesAreTold, complete_word, event_again, line_again, turn_again}
use Rattle.judge_laws.proofs.Going.{in_order, same_rounds, same_run}

event_same : (at : ℕ) (e : TimedEvent) (fault : Option EventError) → event_again (event_told at e fault) ≡ event_line at e.line fault
event_same at e None = refl
event_same at e (Some error) = refl

-- ---- the line of a round

-- what is told of it, in parts
pub said_parts : (devices : List State) (o : Outcome)
    → (round_told Text false devices o).reported ≡ ending_said o.reading.ending ++ (reported_text o.reading ++ (verdict_text o.reading ++ senders_text devices o))
said_parts devices o =
    let a = ending_said o.reading.ending in
    let b = reported_text o.reading in
    let c = verdict_text o.reading in
    let d = senders_text devices o in
    append-nil (sent_said devices o) ∙ append_assoc a (b ++ (c ++ [])) d ∙ ap (λ l. a ++ l) (append_assoc b (c ++ []) d ∙ ap (λ l. b ++ l) (append_assoc c [] d))

-- the word of an ending
abbrev pub ending_word : Ending → List ℕ
ending_word Complete = codes "complete"
ending_word Short = codes "short"
ending_word Silent = codes "silent"
ending_word BadStart = codes "bad-start"
ending_word Long = codes "long"
ending_word Open = codes "open"

ending_spelled : (e : Ending) → ending_text e ≡ 32 ∷ (ending_word e ++ 32 ∷ [])
ending_spelled Complete = refl
ending_spelled Short = refl
ending_spelled Silent = refl
ending_spelled BadStart = refl
ending_spelled Long = refl
ending_spelled Open = refl

pub ending_again : (e : Ending) (text : List ℕ) → complete_word (is_complete e) ++ ((ending_said e ++ text) ++ codes "\n") ≡ ending_word e ++ 32 ∷ (text ++ codes "\n")
ending_again Complete text = refl
ending_again Short text = refl
ending_again Silent text = refl
ending_again BadStart text = refl
ending_again Long text = refl
ending_again Open text = refl

-- what stands after the ending in the trace
abbrev after : List State → Outcome → List ℕ
after devices o =
    reported_text o.reading ++ (verdict_text o.reading ++ (codes " by " ++ (comma_list (map (name_at devices) o.survivors.items) ++ (codes " out " ++ (comma_list (map (loser_text devices) o.losers.items) ++ (codes "\n" ++ []))))))

after_is : (devices : List State) (o : Outcome) → (reported_text o.reading ++ (verdict_text o.reading ++ senders_text devices o)) ++ codes "\n" ≡ after devices o
after_is devices o =
    let t = reported_text o.reading in
    let v = verdict_text o.reading in
    let by = comma_list (map (name_at devices) o.survivors.items) in
    let out = comma_list (map (loser_text devices) o.losers.items) in
    append_assoc t (v ++ (codes " by " ++ (by ++ (codes " out " ++ out)))) (codes "\n")
    ∙ ap (λ l. t ++ l) (append_assoc v (codes " by " ++ (by ++ (codes " out " ++ out))) (codes "\n")
    ∙ ap (λ l. v ++ (codes " by " ++ l)) (append_assoc by (codes " out " ++ out) (codes "\n")))

five : (a b e t v z : List ℕ) → (a ++ (32 ∷ (b ++ (e ++ (t ++ (v ++ [])))))) ++ z ≡ a ++ 32 ∷ (b ++ (e ++ (t ++ (v ++ z))))
five a b e t v z =
    append_assoc a (32 ∷ (b ++ (e ++ (t ++ (v ++ []))))) z
    ∙ ap (λ l. a ++ 32 ∷ l) (append_assoc b (e ++ (t ++ (v ++ []))) z
    ∙ ap (λ l. b ++ l) (append_assoc e (t ++ (v ++ [])) z
    ∙ ap (λ l. e ++ l) (append_assoc t (v ++ []) z
    ∙ ap (λ l. t ++ l) (append_assoc v [] z))))

spaced : (w z : List ℕ) → (32 ∷ (w ++ 32 ∷ [])) ++ z ≡ 32 ∷ (w ++ 32 ∷ z)
spaced w z = ap (λ l. 32 ∷ l) (append_assoc w (32 ∷ []) z)

line_is : (devices : List State) (o : Outcome)
    → round_line devices o ≡ decimal o.reading.begin ++ 32 ∷ (decimal o.reading.at ++ 32 ∷ (ending_word o.reading.ending ++ 32 ∷ after devices o))
line_is devices o =
    let by = codes " by " ++ (comma_list (map (name_at devices) o.survivors.items) ++ (codes " out " ++ (comma_list (map (loser_text devices) o.losers.items) ++ (codes "\n" ++ [])))) in
    five (decimal o.reading.begin) (decimal o.reading.at) (ending_text o.reading.ending) (reported_text o.reading) (verdict_text o.reading) by
    ∙ ap (λ e. decimal o.reading.begin ++ 32 ∷ (decimal o.reading.at ++ (e ++ after devices o))) (ending_spelled o.reading.ending)
    ∙ ap (λ l. decimal o.reading.begin ++ 32 ∷ (decimal o.reading.at ++ l)) (spaced (ending_word o.reading.ending) (after devices o))

pub round_same : (devices : List State) (o : Outcome) → line_again (round_told Text false devices o) ≡ round_line devices o
round_same devices o =
    let r = o.reading in
    let rest = reported_text r ++ (verdict_text r ++ senders_text devices o) in
    ap (λ (said : List ℕ). decimal r.begin ++ 32 ∷ (decimal r.at ++ 32 ∷ (complete_word (is_complete r.ending) ++ (said ++ codes "\n")))) (said_parts devices o)
    ∙ ap (λ l. decimal r.begin ++ 32 ∷ (decimal r.at ++ 32 ∷ l)) (ending_again r.ending rest ∙ ap (λ l. ending_word r.ending ++ 32 ∷ l) (after_is devices o))
    ∙ sym (line_is devices o)

-- ---- all

turn_same : (edid : Option Edid) (x : Happening) → turn_again edid x ≡ text_of edid x
turn_same edid (OfEvent at e before) = ap (λ l. l ++ port_lines at edid (is_on_wire before.tree) (net_after at e.event before).tree) (event_same at e (event_fault before e.event))
turn_same edid (OfRound begin before o) = round_same before.devices o

all_same : (edid : Option Edid) (xs : List Happening) → flat_map (turn_again edid) xs ≡ flat_map (text_of edid) xs
all_same edid [] = refl
all_same edid (x ∷ xs) = ap₂ (λ (a b : List ℕ). a ++ b) (turn_same edid x) (all_same edid xs)

pub traces_are_told : RunsAreTold → TracesSay → TracesAreTold
traces_are_told law says topology plain text totals happened last p q =
    let same = same_run topology plain happened last p.plan p.course p.accepted q in
    let c = start (first_net p.plan.tree p.course.pulses) p.course.events in
    let first = start_reported (Trace p.edid) c.net in
    let end = end_reported (Trace p.edid) p.course.end last.net in
    let tale = law (Trace p.edid) (text_of p.edid) (says p.edid) p.course.end c last happened last.totals true (λ h. same.stops) same.goes refl in
    record {
      whole = tale.same refl text totals p.trace ∙ append_assoc first (flat_map (text_of p.edid) happened) end
          ∙ sym (ap (λ body. first ++ (body ++ end)) (all_same p.edid happened));
      rounds = same_rounds one_outcome (Trace p.edid) p.course.end p.trace.run.turns c p.trace.run.last last p.trace.run.body happened p.trace.run.leads same.goes p.trace.run.stops same.stops;
      in_order = in_order p.course.end happened c last same.goes;
    }

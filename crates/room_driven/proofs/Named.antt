-- A run with names: what was said of its turns is the text of its dump, or its front, and there is such a text.
use Rattle.std.proofs.Common.{◌≡◌, ◌∙◌, ℕ, zero, suc, Bool, true, false, max, nat_lt, if◌then◌else◌, List, [], ◌∷◌, ◌++◌, Option, Some, None, ap, ap₂, sym, refl, subst, append_assoc, append-nil}
use Rattle.std.specs.List.{flat_map}
use Rattle.std.proofs.lemmas.Grind.{flat_map-append}
use Rattle.line_wave.specs.declared.Stretch.{Stretch}
use Rattle.line_wave.specs.Line.{IsWave}
use Rattle.line_rounds.specs.declared.Outcome.{Outcome}
use Rattle.edid_tree.specs.Node.{Node}
use Rattle.room_net.specs.State.{first_net, next_start}
use Rattle.room_net.specs.Step.{after_round, seats_of}
use Rattle.capture_vcd.specs.Text.{last}
use Rattle.capture_wires.specs.Wires.{head}
use Rattle.room_script.specs.declared.script.TimedEvent.{TimedEvent}
use Rattle.message_text.specs.ReadingText.{is_complete}
use Rattle.capture_forms.specs.declared.form.CaptureForm.TheVariants.{Vcd}
use Rattle.room_run.specs.declared.run.Reporting.TheVariants.{Line}
use Rattle.room_run.specs.declared.run.Totals.{Totals}
use Rattle.room_run.specs.declared.run.Turn.{Turn}
use Rattle.room_run.specs.declared.run.Turn.TheVariants.{Stop, Apply, Round}
use Rattle.room_run.specs.Run.{Config, start, turn_at, turn_of, first_time, round_turn, counted_round, IsEventTurn}
use Rattle.room_run.specs.Happening.{Happening, OfEvent, OfRound, HappensBy, Happens, Goes, after_event}
use Rattle.room_run.specs.Turns.{IsTold}
use Rattle.room_driven.specs.Driven.{names_of, drives_of_turn, Drives, IsDriven, IsDrivenBy}
use Rattle.room_driven.specs.Named.{IsDump, IsNamed, head_of, wires_of_turn}
use Rattle.room_driven.specs.declared.wires.Wires.{Wires}
use Rattle.room_driven.specs.declared.wires.Wires.TheVariants.{Plain, Named}
use Rattle.room_driven.proofs.HasDrives.{runs_have_drives}
use Rattle.room_driven.proofs.Running.{drives_told}
use Rattle.room_driven.proofs.Turns.{same_round}

-- ---- each turn leads to one place, and one thing happens in it

-- the first of a list, and the others
same_first : (a b : TimedEvent) (xs ys : List TimedEvent) → (a ∷ xs) ≡ (b ∷ ys) → a ≡ b
same_first a b xs ys e = cc

same_others : (a b : TimedEvent) (xs ys : List TimedEvent) → (a ∷ xs) ≡ (b ∷ ys) → xs ≡ ys
same_others a b xs ys e = cc

one_by : (turn : Turn) (c d e : Config) (x y : Happening) → HappensBy turn c x d → HappensBy turn c y e → (x ≡ y) × (d ≡ e)
one_by Stop c d e x y p q = absurd p
one_by (Apply at) c d e x y p q =
    let same = sym p.next ∙ q.next in
    let event = same_first p.event q.event p.others q.others same in
    let others = same_others p.event q.event p.others q.others same in
    (p.is ∙ ap (λ (a : TimedEvent). OfEvent at a c.net) event ∙ sym q.is, p.after ∙ ap₂ (λ (a : TimedEvent) (rest : List TimedEvent). after_event at c a rest) event others ∙ sym q.after)
one_by (Round begin) c d e x y p q =
    let same = same_round (seats_of c.net begin) begin c.net.pulses p.outcome q.outcome p.wave q.wave p.next.round q.next.round in
    let net : d.net ≡ e.net = p.next.after_is ∙ ap (after_round c.net begin) same ∙ sym q.next.after_is in
    let events : d.events ≡ e.events = p.events ∙ sym q.events in
    let totals : d.totals ≡ e.totals = p.totals ∙ ap (λ (o : Outcome). counted_round (is_complete o.reading.ending) c.totals) same ∙ sym q.totals in
    (p.is ∙ ap (OfRound begin c.net) same ∙ sym q.is, λ i. record { net = net i; events = events i; totals = totals i })

no_turn : (end : ℕ) (c d : Config) (x : Happening) → turn_at end c ≡ Stop → Happens end c x d → ⊥
no_turn end c d x stops h = subst (λ turn. HappensBy turn c x d) stops h

-- what happened comes first in every way to where the run stops
goes_on : (end : ℕ) (xs ys : List Happening) (c d e : Config) → Goes end c xs d → Goes end c ys e → turn_at end e ≡ Stop → (zs : List Happening) × Goes end d zs e × (ys ≡ xs ++ zs)
goes_on end [] ys c d e p q stops = (ys, subst (λ s. Goes end s ys e) (sym p) q, refl)
goes_on end (x ∷ xs) [] c d e (mid, step, rest) q stops = absurd (no_turn end c mid x (ap (turn_at end) (sym q) ∙ stops) step)
goes_on end (x ∷ xs) (y ∷ ys) c d e (mid, step, rest) (mid', step', rest') stops =
    let one = one_by (turn_at end c) c mid mid' x y step step' in
    let there : Goes end mid ys e = subst (λ s. Goes end s ys e) (sym one.1) rest' in
    let go = goes_on end xs ys mid d e rest there stops in
    (go.0, go.1, ap₂ (λ (h : Happening) (hs : List Happening). h ∷ hs) (sym one.0) go.2)

-- nothing happens after the stop
stays : (end : ℕ) (zs : List Happening) (d e : Config) → turn_at end d ≡ Stop → Goes end d zs e → (zs ≡ []) × (e ≡ d)
stays end [] d e stops g = (refl, g)
stays end (z ∷ zs) d e stops (mid, step, rest) = absurd (no_turn end d mid z stops step)

-- ---- the whole text

named_told : (end : ℕ) (c at_end : Config) (xs : List Happening) (totals : Totals) (wants : Bool) → (wants ≡ true → turn_at end at_end ≡ Stop) → Goes end c xs at_end → totals ≡ at_end.totals
    → IsTold (IsNamed end c) (head_of Named (names_of c.net.devices)) (flat_map (wires_of_turn Named) xs) (last (max end at_end.net.close)) totals wants
named_told end c at_end xs totals wants stops goes same =
    let first = head_of Named (names_of c.net.devices) in
    let body = flat_map (wires_of_turn Named) xs in
    record {
      whole = λ on. record { happened = xs; at_end = at_end; goes = goes; stops = stops on; whole = refl; counts = same };
      front = λ text t w. (
          let go = goes_on end xs w.happened c at_end w.at_end goes w.goes w.stops in
          let tail = last (max end w.at_end.net.close) in
          let others = flat_map (wires_of_turn Named) go.0 in
          let all = ap (flat_map (wires_of_turn Named)) go.2 ∙ flat_map-append (wires_of_turn Named) xs go.0 in
          (others ++ tail, w.whole ∙ ap (λ (b : List ℕ). first ++ b) (ap (λ (b : List ℕ). b ++ tail) all ∙ append_assoc body others tail) ∙ sym (append_assoc first body (others ++ tail)))
          );
      same = λ on text t w. (
          let go = goes_on end xs w.happened c at_end w.at_end goes w.goes w.stops in
          let over = stays end go.0 at_end w.at_end (stops on) go.1 in
          let all : w.happened ≡ xs = go.2 ∙ ap (λ (zs : List Happening). xs ++ zs) over.0 ∙ append-nil xs in
          let tail = last (max end at_end.net.close) in
          w.whole ∙ ap₂ (λ (hs : List Happening) (e : Config). first ++ (flat_map (wires_of_turn Named) hs ++ last (max end e.net.close))) all over.1 ∙ sym (append_assoc first body tail)
          );
    }

-- with names or without
same_said : (xs : List Happening) → flat_map drives_of_turn xs ≡ flat_map (wires_of_turn Plain) xs
same_said [] = refl
same_said (OfEvent at e before ∷ xs) = same_said xs
same_said (OfRound begin before o ∷ xs) = ap (λ (text : List ℕ). drives_of_turn (OfRound begin before o) ++ text) (same_said xs)

plain_told : (end : ℕ) (c at_end : Config) (xs : List Happening) (totals : Totals) (wants : Bool) → (wants ≡ true → turn_at end at_end ≡ Stop) → Goes end c xs at_end → totals ≡ at_end.totals
    → IsTold (IsDriven end c) (head (names_of c.net.devices)) (flat_map (wires_of_turn Plain) xs) (last (max end at_end.net.close)) totals wants
plain_told end c at_end xs totals wants stops goes same =
    subst (λ (body : List ℕ). IsTold (IsDriven end c) (head (names_of c.net.devices)) body (last (max end at_end.net.close)) totals wants) (same_said xs) (drives_told end c at_end xs totals wants stops goes same)

pub dump_told : (wires : Wires) (end : ℕ) (c at_end : Config) (xs : List Happening) (totals : Totals) (wants : Bool) → (wants ≡ true → turn_at end at_end ≡ Stop) → Goes end c xs at_end → totals ≡ at_end.totals
    → IsTold (IsDump wires end c) (head_of wires (names_of c.net.devices)) (flat_map (wires_of_turn wires) xs) (last (max end at_end.net.close)) totals wants
dump_told Plain = plain_told
dump_told Named = named_told

-- ---- there is such a text

no_event : (end at : ℕ) (o : Option ℕ) → round_turn end o ≡ Apply at → ⊥
no_event end at None e = cc
no_event end at (Some begin) e = by_test (nat_lt begin end) e
  where
    by_test : (b : Bool) → (if b then Round begin else Stop) ≡ Apply at → ⊥
    by_test true k = cc
    by_test false k = cc

of_event : (end at : ℕ) (c d : Config) (line : List ℕ) (events : List TimedEvent) → c.events ≡ events → turn_at end c ≡ Apply at → IsEventTurn (Line Vcd) at events c line d → (x : Happening) × HappensBy (Apply at) c x d
of_event end at c d line [] same e t = absurd (no_event end at (next_start c.net) (sym (ap (λ (xs : List TimedEvent). turn_of end c.net (first_time xs)) same) ∙ e))
of_event end at c d line (event ∷ others) same e t =
    (OfEvent at event c.net, record { event = event; others = others; next = same; is = refl; after = t.1 })

of_turn : (turn : Turn) (end : ℕ) (c d : Config) (line text : List ℕ) → turn_at end c ≡ turn → IsDrivenBy turn c line text d → (x : Happening) × HappensBy turn c x d
of_turn Stop end c d line text e t = absurd t
of_turn (Apply at) end c d line text e t = of_event end at c d line c.events refl e t.0
of_turn (Round begin) end c d line text e t =
    (OfRound begin c.net t.0.outcome, record { outcome = t.0.outcome; wave = t.0.wave; next = t.0.next; is = refl; totals = t.0.totals; events = t.1 })

of_turns : (end n : ℕ) (c d : Config) (line text : List ℕ) → Drives end n c line text d → (xs : List Happening) × Goes end c xs d
of_turns end zero c d line text l = ([], l.2)
of_turns end (suc n) c d line text (mid, reported, rest, driven, left, turn, after, a, b) =
    let one = of_turn (turn_at end c) end c mid reported driven refl turn in
    let others = of_turns end n mid d rest left after in
    (one.0 ∷ others.0, (mid, one.1, others.1))

pub runs_have_names : (tree : List Node) (pulses : List Stretch) (events : List TimedEvent) (end : ℕ) → IsWave pulses
    → (text : List ℕ) × (totals : Totals) × IsNamed end (start (first_net tree pulses) events) text totals
runs_have_names tree pulses events end order =
    let c = start (first_net tree pulses) events in
    let plain = runs_have_drives tree pulses events end order in
    let run = plain.2.run in
    let all = of_turns end run.turns c run.at_end run.line run.body run.drives in (
      head_of Named (names_of c.net.devices) ++ (flat_map (wires_of_turn Named) all.0 ++ last (max end run.at_end.net.close)),
      plain.1,
      record { happened = all.0; at_end = run.at_end; goes = all.1; stops = run.stops; whole = refl; counts = run.counts },
    )

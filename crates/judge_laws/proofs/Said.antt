-- What the rounds of a run say is what a pattern can meet.
use Rattle.std.proofs.Common.{◌≡◌, ℕ, zero, suc, ◌+◌, ◌-◌, nat_le, ◌≤◌, ◌&&◌, inl, inr, Bool, true, false, true≢false, codes, if◌then◌else◌, length, map, slice_get, List, [], ◌∷◌, ◌++◌, Option, Some, None, refl, sym, ap, subst, ◌∙◌, arith}
use Rattle.std.proofs.lemmas.Bool.Decides.{nat_tests}
use Rattle.std.proofs.lemmas.List.Elements.{All-append, All-cons, All-nil}
use Rattle.std.specs.Prelude.{decimal}
use Rattle.std.specs.List.{All, cons_option, filter_map, flat_map}
use Rattle.line_wave.specs.Line.{Line, is_fall, line_of}
use Rattle.line_frames.specs.Blocks.{frame_by, frame_in}
use Rattle.line_frames.specs.declared.Ending.{Ending}
use Rattle.line_frames.specs.declared.Ending.TheVariants.{Complete, Short, Silent, BadStart, Long, Open}
use Rattle.line_frames.specs.declared.Reading.{Reading}
use Rattle.line_reading.specs.Reading.{Slot, bits_of, first_in, known_at, reading_of, reported_of}
use Rattle.line_reading.specs.Readings.{listed_on, reading_from, readings_from}
use Rattle.line_rounds.specs.declared.Loser.{Loser}
use Rattle.line_rounds.specs.declared.Outcome.{Outcome}
use Rattle.line_rounds.specs.declared.Seat.{Seat}
use Rattle.line_rounds.specs.Round.{IsRound, all_known, losers_from, lost_at, out_of, sends_in, survivors_from}
use Rattle.message_text.specs.ReadingText.{is_broadcast, is_complete, last_bit, reported_by, reported_frame, verdict_by, verdict_in}
use Rattle.capture_monitor.specs.Watch.{reading_as}
use Rattle.device_core.specs.State.{State}
use Rattle.room_net.specs.State.{NetState, first_net}
use Rattle.room_net.specs.Step.{seat_of, seats_of}
use Rattle.room_trace.specs.TraceText.{comma_list, loser_text, name_at}
use Rattle.room_run.specs.declared.run.Turn.{Turn}
use Rattle.room_run.specs.declared.run.Turn.TheVariants.{Stop, Apply, Round}
use Rattle.room_run.specs.Happening.{Goes, Happening, HappensBy}
use Rattle.room_run.specs.Run.{Config, start, turn_at}
use Rattle.room_driven.specs.Driven.{names_of}
use Rattle.capture_laws.proofs.Names.{names_started}
use Rattle.expect_text.specs.Bits.{FitsEnding}
use Rattle.expect_text.specs.Faults.{names_of as declared_of}
use Rattle.expect_text.specs.Fits.{fits}
use Rattle.expect_text.specs.Names.{for_names, holds_in, is_meetable, last_word, meets}
use Rattle.expect_text.specs.Said.{IsSaid, endings_of}
use Rattle.expect_text.specs.Senders.{AreOf, IsLoser, IsSender, IsSenders, IsTail, Judged, listed}
use Rattle.expect_text.specs.Senders.Judged.{Run, Capture}
use Rattle.expect_text.proofs.Naming.{names_are_met}
use Rattle.expect_judge.specs.Seen.{end_seen}
use Rattle.expect_judge.specs.Told.{RoundLine}
use Rattle.expect_judge.specs.declared.seen.TimeSpan.{TimeSpan}
use Rattle.expect_told.specs.Said.{ending_said, reading_said}
use Rattle.record_core.specs.declared.cell.Form.TheVariants.{Text}
use Rattle.expect_told.specs.Turns.{round_told, rounds_of}
use Rattle.judge_laws.specs.Said.{ReadingsAreSaid, RefusedAreNeverSeen, RoundsAreSaid}
use Rattle.judge_laws.proofs.Declared.{names_are_declared}
use Rattle.judge_laws.proofs.Names.{names_applied, names_round}
use Rattle.judge_laws.proofs.Ended.{IsWay}
use Rattle.judge_laws.proofs.Read.{IsHeard, frame_there, out_within, reading_cut, reading_heard}
use Rattle.judge_laws.proofs.TracesTold.{said_parts}

-- ---- who sent, in the topology's order

-- these are the names of devices from a number on
AreFrom : List State → ℕ → List (List ℕ) → Type 0
AreFrom devices n names = (k : ℕ) (name : List ℕ) → slice_get names k ≡ Some name → name_at devices (n + k) ≡ name

first_from : (devices : List State) (n : ℕ) (name : List ℕ) (names : List (List ℕ)) → AreFrom devices n (name ∷ names) → name_at devices n ≡ name
unfolding AreFrom
first_from devices n name names h = let here : n ≡ n + 0 = omega arith in ap (name_at devices) here ∙ h 0 name refl

others_from : (devices : List State) (n : ℕ) (name : List ℕ) (names : List (List ℕ)) → AreFrom devices n (name ∷ names) → AreFrom devices (n + 1) names
unfolding AreFrom
others_from devices n name names h k other e = let there : n + 1 + k ≡ n + suc k = omega arith in ap (name_at devices) there ∙ h (suc k) other e

at_place : (devices : List State) (k : ℕ) (name : List ℕ) → slice_get (names_of devices) k ≡ Some name → name_at devices k ≡ name
at_place [] zero name e = cc
at_place [] (suc k) name e = cc
at_place (d ∷ devices) zero name e = let same : d.name ≡ name = cc in same
at_place (d ∷ devices) (suc k) name e = at_place devices k name e

all_from : (devices : List State) → AreFrom devices 0 (names_of devices)
unfolding AreFrom
all_from devices k name e = let here : 0 + k ≡ k = omega arith in ap (name_at devices) here ∙ at_place devices k name e

module _ (devices : List State) (low : Line) (begin : ℕ) where
  senders_are : (n : ℕ) (seats : List Seat) (names : List (List ℕ)) → length seats ≡ length names → AreFrom devices n names
      → AreOf IsSender names (map (name_at devices) (survivors_from (reading_of low begin) n seats))
  senders_are n [] [] l h = refl
  senders_are n [] (name ∷ names) l h = absurd (omega (arith, l))
  senders_are n (s ∷ seats) [] l h = absurd (omega (arith, l))
  senders_are n (s ∷ seats) (name ∷ names) l h =
      by (sends_in (all_known (reading_of low begin)) s.sends (length (bits_of (reading_of low begin)) + 1))
      (senders_are (n + 1) seats names (omega (arith, l)) (others_from devices n name names h))
    where
      by : (b : Bool) → AreOf IsSender names (map (name_at devices) (survivors_from (reading_of low begin) (n + 1) seats))
          → AreOf IsSender (name ∷ names) (map (name_at devices) (if b then n ∷ survivors_from (reading_of low begin) (n + 1) seats else survivors_from (reading_of low begin) (n + 1) seats))
      by true more = inr (name_at devices n, map (name_at devices) (survivors_from (reading_of low begin) (n + 1) seats), refl, first_from devices n name names h, more)
      by false more = inl more

  losers_are : (n : ℕ) (seats : List Seat) (names : List (List ℕ)) → length seats ≡ length names → AreFrom devices n names
      → AreOf IsLoser names (map (loser_text devices) (losers_from (reading_of low begin) n seats))
  losers_are n [] [] l h = refl
  losers_are n [] (name ∷ names) l h = absurd (omega (arith, l))
  losers_are n (s ∷ seats) [] l h = absurd (omega (arith, l))
  losers_are n (s ∷ seats) (name ∷ names) l h =
      by (out_of (reading_of low begin) s.sends) refl (losers_are (n + 1) seats names (omega (arith, l)) (others_from devices n name names h))
    where
      by : (o : Option ℕ) → out_of (reading_of low begin) s.sends ≡ o → AreOf IsLoser names (map (loser_text devices) (losers_from (reading_of low begin) (n + 1) seats))
          → AreOf IsLoser (name ∷ names) (map (loser_text devices) (lost_at n o ++ losers_from (reading_of low begin) (n + 1) seats))
      by None e more = inl more
      by (Some slot) e more =
          let within = out_within low begin s.sends slot e in
          inr (
            name_at devices n ++ (64 ∷ decimal slot),
            map (loser_text devices) (losers_from (reading_of low begin) (n + 1) seats),
            refl,
            (slot, within.0, within.1, ap (λ (t : List ℕ). t ++ (64 ∷ decimal slot)) (first_from devices n name names h)),
            more,
          )

commas_are : (texts : List (List ℕ)) → comma_list texts ≡ listed texts
commas_are [] = refl
commas_are (t ∷ texts) = refl

-- what stands after the reading
abbrev tail_of : List State → Outcome → List ℕ
tail_of devices o = codes " by " ++ (comma_list (map (name_at devices) o.survivors.items) ++ (codes " out " ++ comma_list (map (loser_text devices) o.losers.items)))

tail_is : (names : List (List ℕ)) (devices : List State) (o : Outcome) → AreOf IsSender names (map (name_at devices) o.survivors.items) → AreOf IsLoser names (map (loser_text devices) o.losers.items)
    → IsSenders names (tail_of devices o)
tail_is names devices o by out = (
  map (name_at devices) o.survivors.items,
  map (loser_text devices) o.losers.items,
  by,
  out,
  ap (λ (t : List ℕ). codes " by " ++ (t ++ (codes " out " ++ comma_list (map (loser_text devices) o.losers.items)))) (commas_are (map (name_at devices) o.survivors.items))
      ∙ ap (λ (t : List ℕ). codes " by " ++ (listed (map (name_at devices) o.survivors.items) ++ (codes " out " ++ t))) (commas_are (map (loser_text devices) o.losers.items)),
)

-- ---- what was read

-- by how the reading ended
abbrev said_of : Reading → List ℕ → Ending → List ℕ
said_of r tail ending = ending_said ending ++ (reported_by (is_complete ending) r ++ (verdict_in (is_complete ending) r ++ tail))

-- where the endings stand that a line can have
record HasPlaces (who : Judged) : Type 0 where
  short : slice_get (endings_of who) 0 ≡ Some Short
  silent : slice_get (endings_of who) 1 ≡ Some Silent
  bad : slice_get (endings_of who) 2 ≡ Some BadStart
  long : slice_get (endings_of who) 3 ≡ Some Long

run_places : (names : List (List ℕ)) → HasPlaces (Run names)
run_places names = record { short = refl; silent = refl; bad = refl; long = refl }

capture_places : HasPlaces Capture
capture_places = record { short = refl; silent = refl; bad = refl; long = refl }

module _ (who : Judged) (places : HasPlaces who) (r : Reading) (tail : List ℕ) (senders : IsTail who tail) where
  over_said : (ending : Ending) → r.ending ≡ ending → IsWay r.bits.items ending → IsSaid who (said_of r tail ending)
  over_said Complete e way =
      let f = frame_there r.bits.items way.0 way.1 way.2 in
      let same : frame_in r ≡ Some f.0 = ap (λ (x : Ending). frame_by x r.bits.items) e ∙ f.1 in
      inl (
        f.0,
        last_bit r.bits.items,
        tail,
        f.2,
        senders,
        ap (λ (x : Option (List ℕ)). reported_frame x ++ (verdict_by (is_broadcast x) (last_bit r.bits.items) ++ tail)) same,
      )
  over_said Short e way = inr (Short, 0, r.bits.items, tail, places.short, way, senders, refl)
  over_said Silent e way = inr (Silent, 1, r.bits.items, tail, places.silent, way, senders, refl)
  over_said BadStart e way = absurd way
  over_said Long e way = inr (Long, 3, r.bits.items, tail, places.long, way, senders, refl)
  over_said Open e way = absurd way

  heard_said : IsHeard r.bits.items r.ending → IsSaid who (said_of r tail r.ending)
  heard_said (inl bad) =
      let none = subst (λ (xs : List Bool). FitsEnding BadStart xs) (sym bad.1) (omega arith, omega arith, refl) in
      subst (λ (x : Ending). IsSaid who (said_of r tail x)) (sym bad.0) (inr (BadStart, 2, r.bits.items, tail, places.bad, none, senders, refl))
  heard_said (inr way) = over_said r.ending refl way

-- ---- the readings of a line

bare : (r : Reading) → said_of r [] r.ending ≡ reading_said r
bare r = refl

open_said : (begin at : ℕ) (bits : List Bool) → FitsEnding Open bits → IsSaid Capture (reading_said (reading_as (record { begin = begin; reported = record { bits = bits; ending = Open; at = at } })))
open_said begin at bits fits = inr (Open, 4, bits, [], refl, fits, refl, refl)

listed_said : (low : Line) (end e : ℕ) → IsSaid Capture (reading_said (reading_as (reading_from low end e)))
listed_said low end e = by (nat_le (reading_of low e).at end) refl
  where
    later : nat_le (reading_of low e).at end ≡ false → end + 1 ≤ (reading_of low e).at
    later h = grind (arith, nat_tests, h)

    by : (b : Bool) → nat_le (reading_of low e).at end ≡ b
        → IsSaid Capture (reading_said (reading_as (record { begin = e; reported = if b then reported_of (reading_of low e) else record { bits = filter_map (λ (s : Slot). s.bit) (known_at (end + 1) (reading_of low e)).slots; ending = Open; at = end } })))
    by true h =
        let r : Reading = reading_as (record { begin = e; reported = reported_of (reading_of low e) }) in
        subst (IsSaid Capture) (bare r) (heard_said Capture capture_places r [] refl (reading_heard low e))
    by false h = open_said e end (filter_map (λ (s : Slot). s.bit) (known_at (end + 1) (reading_of low e)).slots) (reading_cut low e (end + 1) (later h))

from_said : (low : Line) (end left from : ℕ) → All (λ x. IsSaid Capture (reading_said (reading_as x))) (readings_from low end left from)
unfolding readings_from
from_said low end zero from = All-nil (λ x. IsSaid Capture (reading_said (reading_as x)))
from_said low end (suc left) from = by (first_in (is_fall low) from (end + 1 - from)) (from_said low end left)
  where
    by : (o : Option ℕ) → ((f : ℕ) → All (λ x. IsSaid Capture (reading_said (reading_as x))) (readings_from low end left f))
        → All (λ x. IsSaid Capture (reading_said (reading_as x))) (listed_on low end o (readings_from low end left))
    by None later = All-nil (λ x. IsSaid Capture (reading_said (reading_as x)))
    by (Some e) later =
        All-cons (λ x. IsSaid Capture (reading_said (reading_as x))) (reading_from low end e) (readings_from low end left ((reading_of low e).until + 1)) (listed_said low end e) (later ((reading_of low e).until + 1))

pub readings_are_said : ReadingsAreSaid
readings_are_said low end = from_said low end (end + 1) 0

-- ---- turn by turn

abbrev AreSaid : List (List ℕ) → List RoundLine → Type 0
AreSaid names rs = All (λ r. IsSaid (Run names) r.reported) rs

none_said : (names : List (List ℕ)) → AreSaid names []
none_said names = All-nil (λ r. IsSaid (Run names) r.reported)

seats_many : (s : NetState) (begin : ℕ) (devices : List State) → length (map (seat_of s.rest begin) devices) ≡ length (names_of devices)
seats_many s begin [] = refl
seats_many s begin (d ∷ devices) = let more = seats_many s begin devices in omega (arith, more)

round_said : (names : List (List ℕ)) (begin : ℕ) (s : NetState) (o : Outcome) → IsRound (seats_of s begin) begin s.pulses o → names_of s.devices ≡ names → IsSaid (Run names) (round_told Text false s.devices o).reported
round_said names begin s o round h =
    let low : Line = line_of o.wave in
    let seats = seats_of s begin in
    let many : length seats ≡ length names = seats_many s begin s.devices ∙ ap length h in
    let from : AreFrom s.devices 0 names = subst (AreFrom s.devices 0) h (all_from s.devices) in
    let by = subst (λ (xs : List ℕ). AreOf IsSender names (map (name_at s.devices) xs)) (sym round.survivors) (senders_are s.devices low begin 0 seats names many from) in
    let out = subst (λ (xs : List Loser). AreOf IsLoser names (map (loser_text s.devices) xs)) (sym round.losers) (losers_are s.devices low begin 0 seats names many from) in
    let heard : IsHeard o.reading.bits.items o.reading.ending =
    subst (λ (x : Ending). IsHeard o.reading.bits.items x) (sym round.ending) (subst (λ (xs : List Bool). IsHeard xs (reading_of low begin).ending) (sym round.bits) (reading_heard low begin)) in
    subst (λ (said : List ℕ). IsSaid (Run names) said) (sym (said_parts s.devices o)) (heard_said (Run names) (run_places names) o.reading (tail_of s.devices o) (tail_is names s.devices o by out) heard)

turn_said : (names : List (List ℕ)) (turn : Turn) (c d : Config) (x : Happening) → HappensBy turn c x d → names_of c.net.devices ≡ names
    → (names_of d.net.devices ≡ names) × AreSaid names (rounds_of Text false x)
turn_said names Stop c d x h same = absurd h
turn_said names (Apply at) c d x h same = (
  ap (λ (k : Config). names_of k.net.devices) h.after ∙ names_applied at h.event.event c.net ∙ same,
  subst (λ (y : Happening). AreSaid names (rounds_of Text false y)) (sym h.is) (none_said names),
)
turn_said names (Round begin) c d x h same = (
  ap (λ (s : NetState). names_of s.devices) h.next.after_is ∙ names_round c.net begin h.outcome ∙ same,
  subst (λ (y : Happening). AreSaid names (rounds_of Text false y)) (sym h.is)
      (All-cons (λ r. IsSaid (Run names) r.reported) (round_told Text false c.net.devices h.outcome) [] (round_said names begin c.net h.outcome h.next.round same) (none_said names)),
)

turns_said : (names : List (List ℕ)) (end : ℕ) (xs : List Happening) (c d : Config) → Goes end c xs d → names_of c.net.devices ≡ names → AreSaid names (flat_map (rounds_of Text false) xs)
turns_said names end [] c d h same = none_said names
turns_said names end (x ∷ xs) c d (mid, step, rest) same =
    let one = turn_said names (turn_at end c) c mid x step same in
    All-append (λ r. IsSaid (Run names) r.reported) (rounds_of Text false x) (flat_map (rounds_of Text false) xs) one.1 (turns_said names end xs mid d rest one.0)

pub rounds_are_said : RoundsAreSaid
rounds_are_said topology plain happened last p =
    turns_said (declared_of topology) p.course.end happened (start (first_net p.plan.tree p.course.pulses) p.course.events) last p.goes
    (names_started p.plan.tree p.course.pulses ∙ names_are_declared topology p.plan p.accepted.plan_is)

-- ---- patterns that are refused

-- what says so of a round is a text that some pattern without names fits
unmet : (names : List (List ℕ)) (pattern said : List ℕ) → IsSaid (Run names) said → is_meetable (Run names) pattern ≡ false → meets pattern said ≡ false
unfolding meets
unmet names pattern said is h = by (for_names (holds_in (last_word said)) (λ p. fits p said) pattern) refl
  where
    by : (b : Bool) → for_names (holds_in (last_word said)) (λ p. fits p said) pattern ≡ b → b ≡ false
    by false e = refl
    by true e = absurd (true≢false (sym (names_are_met.only (Run names) pattern said (holds_in (last_word said)) is e) ∙ h))

unseen : (span : TimeSpan) (pattern : List ℕ) (l : RoundLine) → meets pattern l.reported ≡ false → end_seen span pattern l ≡ None
unseen span pattern l none =
    ap (λ (m : Bool). if nat_le span.from l.begin && nat_le l.at span.to && m then Some l.at else None) none ∙ never (nat_le span.from l.begin && nat_le l.at span.to)
  where
    never : (c : Bool) → (if c && false then Some l.at else None) ≡ None
    never true = refl
    never false = refl

not_seen : (names : List (List ℕ)) (pattern : List ℕ) (span : TimeSpan) (rs : List RoundLine) → AreSaid names rs → is_meetable (Run names) pattern ≡ false → filter_map (end_seen span pattern) rs ≡ []
not_seen names pattern span [] said h = refl
not_seen names pattern span (r ∷ rs) said h =
    let none = unmet names pattern r.reported (said 0 r (omega arith)) h in
    ap (λ (o : Option ℕ). cons_option o (filter_map (end_seen span pattern) rs)) (unseen span pattern r none)
    ∙ not_seen names pattern span rs (λ k x l. said (suc k) x (omega arith)) h

pub refused_are_never_seen : RefusedAreNeverSeen
refused_are_never_seen topology plain pattern happened last span p h =
    not_seen (declared_of topology) pattern span (flat_map (rounds_of Text false) happened) (rounds_are_said topology plain happened last p) h

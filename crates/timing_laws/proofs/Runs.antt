-- Runs without pulses, round by round.
use Rattle.std.proofs.Common.{◌≡◌, ◌≢◌, ℕ, zero, suc, ◌+◌, ◌-◌, ◌*◌, ◌<◌, ◌≤◌, Bool, true, false, not, ◌&&◌, ◌||◌, nat_le, nat_lt, if◌then◌else◌, List, [], ◌∷◌, ◌++◌, length, slice_index_or, map, take, ◌⊎◌, inl, inr, Option, Some, None, is_some, refl, arith, ap, ◌∙◌, sym, subst}
use Rattle.std.specs.List.{filter, list_any}
use Rattle.std.proofs.lemmas.Bool.{cases_lt, false≢true}
use Rattle.std.proofs.lemmas.Bool.Decides.{nat_tests}
use Rattle.line_wave.specs.declared.Edge.{Edge}
use Rattle.line_wave.specs.declared.Stretch.{Stretch}
use Rattle.line_wave.specs.Line.{line_of}
use Rattle.line_wave.specs.Sender.{slot_stretches, sender_stretches}
use Rattle.line_frames.specs.declared.Ending.{Ending}
use Rattle.line_frames.specs.declared.Ending.TheVariants.{Complete, Short, Silent, BadStart, Long, Open}
use Rattle.line_reading.specs.Windows.{standard}
use Rattle.line_reading.specs.Reading.{reading_of}
use Rattle.line_reading.specs.Readings.{IsLone, Listed}
use Rattle.line_reading.proofs.Ends.{at_by}
use Rattle.capture_core.specs.Edges.{edges_of}
use Rattle.audit_widths.specs.declared.low.Low.{Low as LowOf}
use Rattle.audit_widths.specs.Lows.{first_low, gone_to, low_at, lows_before, lows_in}
use Rattle.audit_widths.specs.Misfits.{drive_within, last_of, long_by, long_low}
use Rattle.audit_remarks.specs.declared.free.EarlierSender.TheVariants.{Nothing}
use Rattle.audit_remarks.specs.declared.free.Previous.{Previous}
use Rattle.audit_remarks.specs.Attempts.{tries_again}
use Rattle.audit_remarks.specs.Endings.{is_measured}
use Rattle.audit_remarks.specs.Free.{before_of, final_bit, final_by, free_before, free_due, is_bad_start, is_over, last_fall, previous_with, too_soon}
use Rattle.audit_core.specs.Audit.{Tape, after, come_to, drive_by, drive_of, falls_until, first_tape, lows_of}
use Rattle.audit_core.specs.Lines.{last_of as last_slot, misfit_lines}
use Rattle.line_rounds.specs.declared.Seat.{Seat}
use Rattle.line_rounds.specs.declared.Outcome.{Outcome}
use Rattle.line_rounds.specs.Round.{IsRound}
use Rattle.line_rounds.specs.Alone.{outcome_listed, part_of}
use Rattle.line_rounds.specs.Lasting.{is_begun}
use Rattle.line_rounds.proofs.Alone.{rounds_are_lone}
use Rattle.line_rounds.proofs.Lays.{after_start, slot_at}
pub use Rattle.line_rounds.specs.Elements.{In}
use Rattle.room_net.specs.State.{NetState, next_start}
use Rattle.room_net.specs.Start.{first_onset, least_start, sooner}
use Rattle.room_net.specs.Apply.{net_after}
use Rattle.room_net.specs.Step.{after_round, seats_of}
use Rattle.room_net.specs.Framed.{AreFramed}
use Rattle.room_net.specs.Line.{Move, Happens, Goes, GoesFrom, Moves, rounds_of, run_wave}
pub use Rattle.room_net.proofs.Framed.{framed-applied, framed-round, seats_fit}
pub use Rattle.room_net.specs.Progress.{IsLed}
pub use Rattle.room_net.proofs.Kept.{event_keeps}
pub use Rattle.room_net.proofs.Lines.{begun, least_led}
use Rattle.timing_laws.specs.Times.{AreFree, AreInTime, AsksForMore}
use Rattle.timing_laws.proofs.Nominal.{IsOwnEnding, ends_later, rounds_are_nominal}
use Rattle.timing_laws.proofs.Widths.{Later, none_later, sender_remarks}

-- ---- rounds of nominal times, one after another

pub record IsTimed (o : Outcome) : Type 0 where
  pub wave : o.wave ≡ sender_stretches o.reading.begin o.reading.bits.items
  pub some : 0 < length o.reading.bits.items
  pub ends : o.reading.begin + 2100 + 2400 * length o.reading.bits.items < o.reading.at
  pub closed : o.reading.ending ≢ Open
  pub whole : o.reading.ending ≢ Short

-- each begins a signal free time after the one before, whose reading is over
abbrev pub Apart : Outcome → List Outcome → Type 0
Apart o [] = Unit {0}
Apart o (p ∷ os) = (o.reading.begin + 9300 + 2400 * length o.reading.bits.items ≤ p.reading.begin) × (o.reading.at < p.reading.begin)

abbrev pub AreTimed : List Outcome → Type 0
AreTimed [] = Unit {0}
AreTimed (o ∷ os) = IsTimed o × Apart o os × AreTimed os

-- ---- the edges of rounds

-- all edges come before an instant
abbrev pub AreBefore : ℕ → List Edge → Type 0
AreBefore t [] = Unit {0}
AreBefore t (e ∷ es) = (e.at < t) × AreBefore t es

passed : (t : ℕ) (old more : List Edge) → AreBefore t old → Later t more → gone_to t (old ++ more) ≡ more
passed t [] [] h l = refl
passed t [] (e ∷ more) h l = let k : t ≤ e.at = l in let x : nat_lt e.at t ≡ false = grind (arith, nat_tests) in rw x refl
passed t (e ∷ old) more h l = let a : e.at < t = h.0 in let x : nat_lt e.at t ≡ true = grind (arith, nat_tests) in rw x (passed t old more h.1 l)

slots_before : (t fall : ℕ) (bits : List Bool) → fall + 2400 * length bits ≤ t → AreBefore t (edges_of (slot_stretches fall bits))
slots_before t fall [] h = tt
slots_before t fall (true ∷ bits) h = (omega arith, (omega arith, slots_before t (fall + 2400) bits (omega (arith, h))))
slots_before t fall (false ∷ bits) h = (omega arith, (omega arith, slots_before t (fall + 2400) bits (omega (arith, h))))

sender_before : (t begin : ℕ) (bits : List Bool) → begin + 4500 + 2400 * length bits ≤ t → AreBefore t (edges_of (sender_stretches begin bits))
sender_before t begin bits h = (omega arith, (omega arith, slots_before t (begin + 4500) bits h))

edges_more : (xs ys : List Stretch) → edges_of (xs ++ ys) ≡ edges_of xs ++ edges_of ys
edges_more [] ys = refl
edges_more (s ∷ xs) ys = ap (λ (es : List Edge). record { at = s.from; low = true } ∷ record { at = s.to; low = false } ∷ es) (edges_more xs ys)

-- the next round's first edge
abbrev NextBegin : ℕ → List Outcome → Type 0
NextBegin from [] = Unit {0}
NextBegin from (o ∷ os) = from ≤ o.reading.begin

first_edge : (from : ℕ) (os : List Outcome) → AreTimed os → NextBegin from os → Later from (edges_of (run_wave os))
first_edge from [] h l = tt
first_edge from (o ∷ os) h l = subst (λ (w : List Stretch). Later from (edges_of (w ++ run_wave os))) (sym h.0.wave) l

-- ---- what an audit remarks

measured : {X : Type 0} (b : Bool) (xs : List X) → xs ≡ [] → (if b then xs else []) ≡ []
measured true xs h = h
measured false xs h = refl

until_is : (ending : Ending) (at : ℕ) → ending ≢ Open → falls_until ending at ≡ at
until_is Complete at h = refl
until_is Short at h = refl
until_is Silent at h = refl
until_is BadStart at h = refl
until_is Long at h = refl
until_is Open at h = absurd (h refl)

next_by : (from to : ℕ) (os : List Outcome) → from ≤ to → NextBegin to os → NextBegin from os
next_by from to [] l h = tt
next_by from to (o ∷ os) l h = let k : to ≤ o.reading.begin = h in omega arith

apart_free : (o : Outcome) (os : List Outcome) → Apart o os → NextBegin (o.reading.begin + 9300 + 2400 * length o.reading.bits.items) os
apart_free o [] h = tt
apart_free o (p ∷ os) h = h.0

apart_over : (o : Outcome) (os : List Outcome) → Apart o os → NextBegin (o.reading.at + 1) os
apart_over o [] h = tt
apart_over o (p ∷ os) h = let l : o.reading.at < p.reading.begin = h.1 in omega arith

-- of a round that comes next nothing is remarked
round_remarks : (d : Option ℕ) (x : Listed) (all : List LowOf) (o : Outcome) (os : List Outcome) → AreTimed (o ∷ os) → (edges : List Edge) → edges ≡ edges_of o.wave ++ edges_of (run_wave os)
    → misfit_lines (last_slot d x all) o.reading.ending o.reading.bits.items 0 (lows_before (falls_until o.reading.ending o.reading.at) edges) ≡ []
round_remarks d x all o os h edges e =
    ap (λ (es : List Edge). misfit_lines (last_slot d x all) o.reading.ending o.reading.bits.items 0 (lows_before (falls_until o.reading.ending o.reading.at) es)) (e ∙ ap (λ (w : List Stretch). edges_of w ++ edges_of (run_wave os)) h.0.wave)
    ∙ sender_remarks d x all o.reading.ending (falls_until o.reading.ending o.reading.at) (edges_of (run_wave os)) o.reading.bits.items o.reading.begin h.0.some
    (first_edge (falls_until o.reading.ending o.reading.at) os h.2 (next_by (falls_until o.reading.ending o.reading.at) (o.reading.at + 1) os (omega (arith, u)) (apart_over o os h.1)))
    (let l : o.reading.begin + 2100 + 2400 * length o.reading.bits.items < o.reading.at = h.0.ends in omega (arith, l, u))
    (first_edge (o.reading.begin + 9300 + 2400 * length o.reading.bits.items) os h.2 (apart_free o os h.1))
  where
    u : falls_until o.reading.ending o.reading.at ≡ o.reading.at
    u = until_is o.reading.ending o.reading.at h.0.closed

-- what is past comes before the next round
abbrev pub OldBefore : List Edge → List Outcome → Type 0
OldBefore old [] = Unit {0}
OldBefore old (o ∷ os) = AreBefore o.reading.begin old

pub old_before : (o : Outcome) (os : List Outcome) → AreTimed (o ∷ os) → OldBefore (edges_of o.wave) os
old_before o [] h = tt
old_before o (p ∷ os) h =
    subst (λ (w : List Stretch). AreBefore p.reading.begin (edges_of w)) (sym h.0.wave)
    (let l : o.reading.begin + 9300 + 2400 * length o.reading.bits.items ≤ p.reading.begin = h.1.0 in sender_before p.reading.begin o.reading.begin o.reading.bits.items (omega (arith, l)))

-- nobody breaks it by a fall too early
undriven : (ending : Ending) (o : Option LowOf) → ending ≢ Short → drive_by ending o ≡ None
undriven ending None h = refl
undriven Complete (Some low) h = refl
undriven Short (Some low) h = absurd (h refl)
undriven Silent (Some low) h = refl
undriven BadStart (Some low) h = refl
undriven Long (Some low) h = refl
undriven Open (Some low) h = refl

pub come_here : (o : Outcome) (os : List Outcome) → AreTimed (o ∷ os) → (t : Tape) (old : List Edge) → t.place ≡ old ++ edges_of (run_wave (o ∷ os)) → OldBefore old (o ∷ os)
    → (come_to (outcome_listed o) t).place ≡ edges_of o.wave ++ edges_of (run_wave os)
come_here o os h t old left past =
    ap (λ (es : List Edge). gone_to o.reading.begin es) left
    ∙ passed o.reading.begin old (edges_of (run_wave (o ∷ os))) past (first_edge o.reading.begin (o ∷ os) h (omega arith))
    ∙ edges_more o.wave (run_wave os)

-- nor within a low: no slot is low for as long
abbrev AreBrief : List LowOf → Type 0
AreBrief [] = Unit {0}
AreBrief (low ∷ lows) = (long_by low.fall low.rise ≡ None) × AreBrief lows

brief_take : (n : ℕ) (lows : List LowOf) → AreBrief lows → AreBrief (take n lows)
brief_take zero lows h = tt
brief_take (suc n) [] h = tt
brief_take (suc n) (low ∷ lows) h = (h.0, brief_take n lows h.1)

last_brief : (o : Option LowOf) (lows : List LowOf) → long_low o ≡ None → AreBrief lows → long_low (last_of o lows) ≡ None
last_brief o [] h k = h
last_brief o (low ∷ lows) h k = last_brief (Some low) lows k.0 k.1

brief_width : (fall rise : ℕ) → rise ≤ fall + 1500 → long_by fall (Some rise) ≡ None
brief_width fall rise l = let x : nat_le 3360 (rise - fall) ≡ false = grind (arith, nat_tests) in rw x refl

brief_low : (fall rise : ℕ) (es : List Edge) → rise ≤ fall + 1500 → long_by (low_at fall (record { at = rise; low = false } ∷ es)).fall (low_at fall (record { at = rise; low = false } ∷ es)).rise ≡ None
brief_low fall rise [] l = brief_width fall rise l
brief_low fall rise (e ∷ es) l = brief_width fall rise l

brief_more : (until fall rise : ℕ) (es : List Edge) → rise ≤ fall + 1500 → AreBrief (lows_in until es) → AreBrief (lows_in until (record { at = fall; low = true } ∷ record { at = rise; low = false } ∷ es))
brief_more until fall rise es l more = by (nat_lt fall until)
  where
    by : (b : Bool) → AreBrief (if b then low_at fall (record { at = rise; low = false } ∷ es) ∷ lows_in until es else [])
    by true = (brief_low fall rise es l, more)
    by false = tt

slots_brief : (until : ℕ) (rest : List Edge) (bits : List Bool) (fall : ℕ) → Later until rest → AreBrief (lows_in until (edges_of (slot_stretches fall bits) ++ rest))
slots_brief until rest [] fall l = subst (λ (ls : List LowOf). AreBrief ls) (sym (none_later until rest l)) tt
slots_brief until rest (true ∷ bits) fall l = brief_more until fall (fall + 600) (edges_of (slot_stretches (fall + 2400) bits) ++ rest) (omega arith) (slots_brief until rest bits (fall + 2400) l)
slots_brief until rest (false ∷ bits) fall l = brief_more until fall (fall + 1500) (edges_of (slot_stretches (fall + 2400) bits) ++ rest) (omega arith) (slots_brief until rest bits (fall + 2400) l)

within_take : (n : ℕ) (start : LowOf) (lows : List LowOf) → AreBrief lows → drive_within (take n (start ∷ lows)) ≡ None
within_take zero start lows h = refl
within_take (suc n) start lows h = last_brief None (take n lows) refl (brief_take n lows h)

within_none : (n : ℕ) → drive_within (take n []) ≡ None
within_none zero = refl
within_none (suc n) = refl

sender_within : (n until : ℕ) (rest : List Edge) (bits : List Bool) (begin : ℕ) → Later until rest → drive_within (take n (lows_in until (edges_of (sender_stretches begin bits) ++ rest))) ≡ None
sender_within n until rest bits begin l = by (nat_lt begin until)
  where
    slots : List Edge
    slots = edges_of (slot_stretches (begin + 4500) bits) ++ rest

    by : (b : Bool) → drive_within (take n (if b then low_at begin (record { at = begin + 3700; low = false } ∷ slots) ∷ lows_in until slots else [])) ≡ None
    by true = within_take n (low_at begin (record { at = begin + 3700; low = false } ∷ slots)) (lows_in until slots) (slots_brief until rest bits (begin + 4500) l)
    by false = within_none n

round_within : (o : Outcome) (os : List Outcome) → AreTimed (o ∷ os) → (edges : List Edge) → edges ≡ edges_of o.wave ++ edges_of (run_wave os) → drive_within (lows_of (outcome_listed o) edges) ≡ None
round_within o os h edges e =
    ap (λ (es : List Edge). drive_within (lows_before until es)) (e ∙ ap (λ (w : List Stretch). edges_of w ++ edges_of (run_wave os)) h.0.wave)
    ∙ sender_within 161 until (edges_of (run_wave os)) o.reading.bits.items o.reading.begin (first_edge until os h.2 (next_by until (o.reading.at + 1) os (omega (arith, u)) (apart_over o os h.1)))
  where
    until : ℕ
    until = falls_until o.reading.ending o.reading.at

    u : falls_until o.reading.ending o.reading.at ≡ o.reading.at
    u = until_is o.reading.ending o.reading.at h.0.closed

pub rounds_in_time : (os : List Outcome) → AreTimed os → (t : Tape) (old : List Edge) → t.place ≡ old ++ edges_of (run_wave os) → OldBefore old os → AreInTime t (map outcome_listed os)
rounds_in_time [] h t old left past = tt
rounds_in_time (o ∷ os) h t old left past = (
  measured (is_measured t.previous t.series (outcome_listed o) (lows_of (outcome_listed o) (come_to (outcome_listed o) t).place)) _
      (round_remarks (drive_of (outcome_listed o) (come_to (outcome_listed o) t).place) (outcome_listed o) (lows_of (outcome_listed o) (come_to (outcome_listed o) t).place) o os h (come_to (outcome_listed o) t).place here),
  undriven o.reading.ending (first_low (gone_to o.reading.at (come_to (outcome_listed o) t).place)) h.0.whole,
  round_within o os h (come_to (outcome_listed o) t).place here,
  rounds_in_time os h.2 (after (outcome_listed o) t) (edges_of o.wave) here (old_before o os h),
)
  where
    here : (come_to (outcome_listed o) t).place ≡ edges_of o.wave ++ edges_of (run_wave os)
    here = come_here o os h t old left past

-- ---- the free time before a round

-- low stretches that fall by an instant
abbrev AreFallsBy : ℕ → List LowOf → Type 0
AreFallsBy m [] = Unit {0}
AreFallsBy m (low ∷ lows) = (low.fall ≤ m) × AreFallsBy m lows

falls_take : (n m : ℕ) (lows : List LowOf) → AreFallsBy m lows → AreFallsBy m (take n lows)
falls_take zero m lows h = tt
falls_take (suc n) m [] h = tt
falls_take (suc n) m (low ∷ lows) h = (h.0, falls_take n m lows h.1)

last_by : (m begin : ℕ) (lows : List LowOf) → begin ≤ m → AreFallsBy m lows → last_fall begin lows ≤ m
last_by m begin [] b h = b
last_by m begin (low ∷ lows) b h = last_by m low.fall lows h.0 h.1

low_falls : (m fall rise : ℕ) (es : List Edge) → fall ≤ m → (low_at fall (record { at = rise; low = false } ∷ es)).fall ≤ m
low_falls m fall rise [] h = h
low_falls m fall rise (e ∷ es) h = h

falls_more : (m until fall rise : ℕ) (es : List Edge) → fall ≤ m → AreFallsBy m (lows_in until es) → AreFallsBy m (lows_in until (record { at = fall; low = true } ∷ record { at = rise; low = false } ∷ es))
falls_more m until fall rise es h more = by (nat_lt fall until)
  where
    by : (b : Bool) → AreFallsBy m (if b then low_at fall (record { at = rise; low = false } ∷ es) ∷ lows_in until es else [])
    by true = (low_falls m fall rise es h, more)
    by false = tt

slots_fall_by : (m until : ℕ) (rest : List Edge) (bits : List Bool) (fall : ℕ) → fall + 2400 * length bits ≤ m + 2400 → Later until rest → AreFallsBy m (lows_in until (edges_of (slot_stretches fall bits) ++ rest))
slots_fall_by m until rest [] fall h l = subst (λ (ls : List LowOf). AreFallsBy m ls) (sym (none_later until rest l)) tt
slots_fall_by m until rest (true ∷ bits) fall h l =
    falls_more m until fall (fall + 600) (edges_of (slot_stretches (fall + 2400) bits) ++ rest) (omega (arith, h)) (slots_fall_by m until rest bits (fall + 2400) (omega (arith, h)) l)
slots_fall_by m until rest (false ∷ bits) fall h l =
    falls_more m until fall (fall + 1500) (edges_of (slot_stretches (fall + 2400) bits) ++ rest) (omega (arith, h)) (slots_fall_by m until rest bits (fall + 2400) (omega (arith, h)) l)

sender_falls_by : (m until : ℕ) (rest : List Edge) (bits : List Bool) (begin : ℕ) → begin + 2100 + 2400 * length bits ≤ m → Later until rest → AreFallsBy m (lows_in until (edges_of (sender_stretches begin bits) ++ rest))
sender_falls_by m until rest bits begin h l =
    falls_more m until begin (begin + 3700) (edges_of (slot_stretches (begin + 4500) bits) ++ rest) (omega (arith, h)) (slots_fall_by m until rest bits (begin + 4500) (omega (arith, h)) l)

-- the final bit of a round begins 2,400 before its last slot would be over
final_is : (ending : Ending) (at last : ℕ) → ending ≢ Short → final_by ending at last ≡ last
final_is Complete at last h = refl
final_is Short at last h = absurd (h refl)
final_is Silent at last h = refl
final_is BadStart at last h = refl
final_is Long at last h = refl
final_is Open at last h = refl

pub final_by_round : (o : Outcome) (os : List Outcome) → AreTimed (o ∷ os) → (edges : List Edge) → edges ≡ edges_of o.wave ++ edges_of (run_wave os)
    → final_bit (outcome_listed o) (lows_of (outcome_listed o) edges) ≤ o.reading.begin + 2100 + 2400 * length o.reading.bits.items
final_by_round o os h edges e =
    let same : final_bit (outcome_listed o) (lows_of (outcome_listed o) edges) ≡ last_fall o.reading.begin (lows_of (outcome_listed o) edges) =
    final_is o.reading.ending o.reading.at (last_fall o.reading.begin (lows_of (outcome_listed o) edges)) h.0.whole in
    let by : last_fall o.reading.begin (lows_of (outcome_listed o) edges) ≤ m = last_by m o.reading.begin (lows_of (outcome_listed o) edges) (omega arith) (falls_take 161 m (lows_in until edges) falls) in
    omega (arith, same, by)
  where
    m : ℕ
    m = o.reading.begin + 2100 + 2400 * length o.reading.bits.items

    until : ℕ
    until = falls_until o.reading.ending o.reading.at

    u : falls_until o.reading.ending o.reading.at ≡ o.reading.at
    u = until_is o.reading.ending o.reading.at h.0.closed

    falls : AreFallsBy m (lows_in until edges)
    falls =
        subst (λ (es : List Edge). AreFallsBy m (lows_in until es)) (sym (e ∙ ap (λ (w : List Stretch). edges_of w ++ edges_of (run_wave os)) h.0.wave))
        (sender_falls_by m until (edges_of (run_wave os)) o.reading.bits.items o.reading.begin (omega arith) (first_edge until os h.2 (next_by until (o.reading.at + 1) os (omega (arith, u)) (apart_over o os h.1))))

-- the frame before began its final bit three periods earlier, if there was one
abbrev IsPast : Previous → ℕ → Type 0
IsPast p begin = (p.frame ≡ Nothing) ⊎ (p.final_bit + 7200 ≤ begin)

asks_more : (p : Previous) (x : Listed) (again : Bool) → IsPast p x.begin → AsksForMore (too_soon p x again)
asks_more p x again h = by (not (is_bad_start x.reported.ending)) (nat_lt (free_before p x.begin) (free_due p.frame x.reported.bits again)) refl
  where
    more : free_before p x.begin < free_due p.frame x.reported.bits again → 7200 < free_due p.frame x.reported.bits again
    more lt = elim h [
      | inl none ↦ (let zero : free_due p.frame x.reported.bits again ≡ 0 = ap (λ f. free_due f x.reported.bits again) none in absurd (omega (arith, zero, lt)))
      | inr far ↦ (let free : free_before p x.begin ≡ x.begin - p.final_bit = refl in omega (arith, far, lt, free))
    ]

    by : (known soon : Bool) → nat_lt (free_before p x.begin) (free_due p.frame x.reported.bits again) ≡ soon
        → AsksForMore (if known && soon then Some (record { free = free_before p x.begin; due = free_due p.frame x.reported.bits again }) else None)
    by true true e = more (let lt : free_before p x.begin < free_due p.frame x.reported.bits again = grind (arith, nat_tests) in lt)
    by true false e = tt
    by false soon e = tt

abbrev PastNext : Previous → List Outcome → Type 0
PastNext p [] = Unit {0}
PastNext p (o ∷ os) = IsPast p o.reading.begin

past_next : (o : Outcome) (os : List Outcome) → AreTimed (o ∷ os) → (p : Previous) (edges : List Edge) → edges ≡ edges_of o.wave ++ edges_of (run_wave os) → IsPast p o.reading.begin
    → PastNext (previous_with p (outcome_listed o) (lows_of (outcome_listed o) edges)) os
past_next o [] h p edges e past = tt
past_next o (next ∷ os) h p edges e past = by (is_bad_start o.reading.ending)
  where
    apart : o.reading.begin + 9300 + 2400 * length o.reading.bits.items ≤ next.reading.begin
    apart = h.1.0

    final : final_bit (outcome_listed o) (lows_of (outcome_listed o) edges) ≤ o.reading.begin + 2100 + 2400 * length o.reading.bits.items
    final = final_by_round o (next ∷ os) h edges e

    later : IsPast p next.reading.begin
    later = elim past [
      | inl none ↦ inl none
      | inr far ↦ inr (omega (arith, far, apart))
    ]

    by : (bad : Bool)
        → IsPast (if bad then p else record { frame = before_of o.reading.ending o.reading.bits.items; final_bit = final_bit (outcome_listed o) (lows_of (outcome_listed o) edges); whole = is_over o.reading.ending o.reading.bits.items }) next.reading.begin
    by true = later
    by false = inr (omega (arith, final, apart))

pub rounds_free : (os : List Outcome) → AreTimed os → (t : Tape) (old : List Edge) → t.place ≡ old ++ edges_of (run_wave os) → OldBefore old os → PastNext t.previous os → AreFree t (map outcome_listed os)
rounds_free [] h t old left past free = tt
rounds_free (o ∷ os) h t old left past free = (
  asks_more t.previous (outcome_listed o) (tries_again t.attempts o.reading.bits.items) free,
  rounds_free os h.2 (after (outcome_listed o) t) (edges_of o.wave) here (old_before o os h) (past_next o os h t.previous (come_to (outcome_listed o) t).place here free),
)
  where
    here : (come_to (outcome_listed o) t).place ≡ edges_of o.wave ++ edges_of (run_wave os)
    here = come_here o os h t old left past

-- ---- a run

-- without pulses it is a device that starts
pub leads : (s : NetState) (begin : ℕ) → s.pulses ≡ [] → next_start s ≡ Some begin → IsLed s.rest begin s.devices
leads s begin none next = least_led s.rest begin s.devices (by (least_start s.rest s.devices) (ap (λ (ps : List Stretch). sooner (least_start s.rest s.devices) (first_onset ps)) (sym none) ∙ next))
  where
    by : (o : Option ℕ) → sooner o None ≡ Some begin → o ≡ Some begin
    by None h = h
    by (Some t) h = h

timed : (s : NetState) (begin : ℕ) (o : Outcome) → AreFramed s → s.pulses ≡ [] → GoesFrom s begin o → IsTimed o
timed s begin o framed none g = record {
  wave = rounds_are_nominal (seats_of s begin) begin o (seats_fit s begin framed) g.wave round sends ∙ ap (λ (b : ℕ). sender_stretches b o.reading.bits.items) (sym g.round.starts);
  some = later.1;
  ends = let a = later.0 in let b : o.reading.begin ≡ begin = g.round.starts in omega (arith, a, b);
  closed = later.2.closed;
  whole = later.2.whole;
}
  where
    round : IsRound (seats_of s begin) begin [] o
    round = subst (λ (ps : List Stretch). IsRound (seats_of s begin) begin ps o) none g.round

    lead : IsLed s.rest begin s.devices
    lead = leads s begin none g.begins

    sends : list_any (λ (x : Seat). is_some x.sends) (seats_of s begin) ≡ true
    sends = lead.sends

    later : (begin + 2100 + 2400 * length o.reading.bits.items < o.reading.at) × (0 < length o.reading.bits.items) × IsOwnEnding o.reading.ending
    later = ends_later (seats_of s begin) begin o (seats_fit s begin framed) round sends

-- the last slot falls before the line comes to rest
last_low : (o : Outcome) → IsTimed o → line_of o.wave (o.reading.begin + 2100 + 2400 * length o.reading.bits.items) ≡ true
last_low o h =
    ap (λ (w : List Stretch). line_of w at) h.wave ∙ after_start o.reading.bits.items o.reading.begin at (omega (arith, some))
    ∙ slot_at o.reading.bits.items (o.reading.begin + 4500) (length o.reading.bits.items - 1) 0 at (omega (arith, some)) (omega arith) (omega (arith, some))
    ∙ by (slice_index_or o.reading.bits.items (length o.reading.bits.items - 1) false)
  where
    at : ℕ
    at = o.reading.begin + 2100 + 2400 * length o.reading.bits.items

    some : 0 < length o.reading.bits.items
    some = h.some

    by : (b : Bool) → nat_lt 0 (if b then 600 else 1500) ≡ true
    by true = refl
    by false = refl

-- the round is over by where the state stands
pub record Rested (o : Outcome) (rest : ℕ) : Type 0 where
  pub low : o.reading.begin + 2100 + 2400 * length o.reading.bits.items < rest
  pub soon : o.reading.at ≤ rest + (standard.start_total.most + 1)

pub rested_after : (s : NetState) (begin : ℕ) (o : Outcome) → AreFramed s → s.pulses ≡ [] → GoesFrom s begin o → Rested o o.rest
rested_after s begin o framed none g = record { low = low; soon = soon }
  where
    round : IsRound (seats_of s begin) begin [] o
    round = subst (λ (ps : List Stretch). IsRound (seats_of s begin) begin ps o) none g.round

    starts : is_begun (seats_of s begin) begin [] ≡ true
    starts = subst (λ (ps : List Stretch). is_begun (seats_of s begin) begin ps ≡ true) none (begun s begin g.begins)

    lone : IsLone (part_of o)
    lone = rounds_are_lone.lone (seats_of s begin) begin [] o (seats_fit s begin framed) tt g.wave round starts

    low : o.reading.begin + 2100 + 2400 * length o.reading.bits.items < o.rest
    low = elim (cases_lt (o.reading.begin + 2100 + 2400 * length o.reading.bits.items) o.rest) [
      | inl lt ↦ lt
      | inr ge ↦ absurd (false≢true (sym (lone.after (o.reading.begin + 2100 + 2400 * length o.reading.bits.items) ge) ∙ last_low o (timed s begin o framed none g)))
    ]

    soon : o.reading.at ≤ o.rest + (standard.start_total.most + 1)
    soon =
        let a : (reading_of (line_of o.wave) o.reading.begin).until ≤ o.rest + standard.start_total.most = rounds_are_lone.soon (seats_of s begin) begin [] o tt g.wave round starts in
        let b : (reading_of (line_of o.wave) o.reading.begin).at ≤ (reading_of (line_of o.wave) o.reading.begin).until + 1 = at_by (line_of o.wave) o.reading.begin in
        let c : o.reading.at ≡ (reading_of (line_of o.wave) o.reading.begin).at = g.round.ends ∙ ap (λ (x : ℕ). (reading_of (line_of o.wave) x).at) (sym g.round.starts) in
        omega (arith, a, b, c)

apart_next : (o : Outcome) (s t : NetState) (ms : List Move) → Rested o s.rest → s.pulses ≡ [] → Moves s ms t → Apart o (rounds_of ms)
apart_next o s t [] r none m = tt
apart_next o s t (Happens at event ∷ ms) r none m =
    apart_next o (net_after at event s) t ms (subst (λ (rest : ℕ). Rested o rest) (sym (event_keeps at event s (net_after at event s) refl).rest) r) ((event_keeps at event s (net_after at event s) refl).pulses ∙ none) m.1
apart_next o s t (Goes begin p ∷ ms) r none m =
    let late : s.rest + 7200 ≤ begin = (leads s begin none m.0.begins).late in
    let starts : p.reading.begin ≡ begin = m.0.round.starts in
    let low = r.low in
    let soon = r.soon in
    (omega (arith, late, starts, low), omega (arith, late, starts, soon))

pub runs_are_timed : (s t : NetState) (ms : List Move) → AreFramed s → s.pulses ≡ [] → Moves s ms t → AreTimed (rounds_of ms)
runs_are_timed s t [] framed none m = tt
runs_are_timed s t (Happens at event ∷ ms) framed none m = runs_are_timed (net_after at event s) t ms (framed-applied at event s m.0 framed) ((event_keeps at event s (net_after at event s) refl).pulses ∙ none) m.1
runs_are_timed s t (Goes begin o ∷ ms) framed none m = (
  timed s begin o framed none m.0,
  apart_next o (after_round s begin o) t ms (rested_after s begin o framed none m.0) left m.1,
  runs_are_timed (after_round s begin o) t ms (framed-round s begin o framed) left m.1,
)
  where
    left : filter (λ p. nat_lt o.rest p.from) s.pulses ≡ []
    left = ap (filter (λ (p : Stretch). nat_lt o.rest p.from)) none

-- nothing is past when an audit begins
pub first_in_time : (os : List Outcome) → AreTimed os → AreInTime (first_tape (edges_of (run_wave os))) (map outcome_listed os) × AreFree (first_tape (edges_of (run_wave os))) (map outcome_listed os)
first_in_time os h = (
  rounds_in_time os h (first_tape (edges_of (run_wave os))) [] refl (none os),
  rounds_free os h (first_tape (edges_of (run_wave os))) [] refl (none os) (no_frame os),
)
  where
    none : (xs : List Outcome) → OldBefore [] xs
    none [] = tt
    none (x ∷ xs) = tt

    no_frame : (xs : List Outcome) → PastNext (first_tape (edges_of (run_wave os))).previous xs
    no_frame [] = tt
    no_frame (x ∷ xs) = inl refl

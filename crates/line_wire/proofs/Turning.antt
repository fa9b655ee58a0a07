-- A wire waits until somebody changes what he does.
use Rattle.std.proofs.Common.{◌≡◌, ℕ, ◌+◌, ◌-◌, ◌<◌, ◌≤◌, Bool, true, false, nat_lt, List, [], ◌++◌, append-nil, inl, inr, Option, IfSome, refl, arith, ◌∙◌, sym, subst}
use Rattle.std.specs.List.{list_any, All}
use mathlib.Core.Bool.{beq}
use Rattle.std.proofs.lemmas.Bool.{cases_lt}
use Rattle.line_wave.specs.declared.Stretch.{Stretch}
use Rattle.line_wave.specs.Line.{Line, was_low, IsWave}
use Rattle.line_wave.specs.Bounds.{latest_heard}
use Rattle.line_wave.specs.Sender.{first_slot}
use Rattle.line_rounds.proofs.Exists.{has_line}
use Rattle.line_rounds.specs.declared.Seat.{Seat}
use Rattle.line_rounds.specs.Round.{IsRoundLine}
use Rattle.line_wire.specs.declared.edge_wire.EdgeWire.{EdgeWire}
use Rattle.line_wire.specs.declared.senders.Pull.{Pull}
use Rattle.line_wire.specs.Line.{HaveBegun}
use Rattle.line_wire.specs.Pulls.{pull_in, low_in}
use Rattle.line_wire.specs.Told.{told_of}
use Rattle.line_wire.specs.Wire.{IsAt, IsQuiet, until_by}
use Rattle.line_wire.specs.Wired.{EachLine, IsBegunWith, StandsOnLine, Records, end_in, is_low_in, pulls_in}
use Rattle.line_wire.specs.Turns.{IsWake, IsCalm}
use Rattle.line_wire.proofs.Calm.{told_stays}
use Rattle.line_wire.proofs.Kept.{kept_later}
use Rattle.line_wire.proofs.Recorded.{records_calm}
use Rattle.line_wire.proofs.Told.{told_is_read}
use Rattle.line_wire.proofs.UpTo.{between}
use Rattle.line_wire.proofs.Lows.{wakes_ahead}

-- the line of a round
pub made_line : List Seat → ℕ → List Stretch → Line
made_line seats begin pulses = (has_line seats begin pulses).0

pub made_round : (seats : List Seat) (begin : ℕ) (pulses : List Stretch) → IsRoundLine seats begin pulses (made_line seats begin pulses)
unfolding made_line
made_round seats begin pulses = (has_line seats begin pulses).1

pub later_sooner : (a b : ℕ) (ps : List Stretch) → a ≤ b → All (λ p. b ≤ p.from) ps → All (λ p. a ≤ p.from) ps
later_sooner a b ps l h i d m = let x = h i d m in omega (arith, x)

-- ---- the wire at another instant

abbrev pub at_time : EdgeWire → ℕ → EdgeWire
at_time w t = record w { time = t }

begun_by : (begin : ℕ) (past : List Stretch) (last : Option Stretch) (t u : ℕ) → t ≤ u → HaveBegun begin past last t → HaveBegun begin past last u
begun_by begin past last t u l h = record { inside = h.inside; begun = λ i d m. (let x = h.begun i d m in omega (arith, x, l)); last_is = h.last_is }

-- of each line that the round can have
pub waits_on : (past : List Stretch) (w : EdgeWire) (until t : ℕ) (next : Option Stretch) → IsBegunWith past w → w.begin < w.time → pulls_in w ≡ is_low_in w
    → ((u : ℕ) → w.time ≤ u → u < until → list_any (pull_in u) w.senders.items ≡ list_any (pull_in w.time) w.senders.items) → IsWake w until next t → w.time ≤ t
    → EachLine w.seats.items w.begin past t (λ low. IsCalm w t low × StandsOnLine (at_time w t) low)
waits_on past w until t next b after now sends wake le later low wave late line = (
  calm,
  record {
    at = subst (λ n. IsAt w.seats.items w.begin w.receiver w.senders.items w.bits.items (end_in w.ended) w.held (told_of low w.begin) n) there (between_it (t - w.time) (omega (arith, le))).0;
    records = subst (λ n. Records low n w.recorder.wave w.recorder.low_since) there (records_calm low w.time (t - w.time) w.recorder.wave w.recorder.low_since s.records (λ u x y. calm u x (omega (arith, y, le))));
  },
)
  where
    there : w.time + (t - w.time) ≡ t
    there = omega (arith, le)

    s : StandsOnLine w low
    s = b.stands after later low wave (later_sooner w.time t later le late) line

    quiet : IsQuiet w.receiver w.senders.items w.last w.held w.time t
    quiet = record { sends = λ u x y. sends u x (omega (arith, y, wake.sooner)); pull = wake.pull; holds = wake.holds; wakes = wake.wakes }

    between_it : (n : ℕ) → w.time + n ≤ t
        → IsAt w.seats.items w.begin w.receiver w.senders.items w.bits.items (end_in w.ended) w.held (told_of low w.begin) (w.time + n) × ((u : ℕ) → w.time ≤ u → u < w.time + n → low u ≡ was_low low w.time)
    between_it =
        between w.seats.items w.begin past later w.last w.receiver w.senders.items w.bits.items (end_in w.ended) w.held low (told_of low w.begin) w.time t wave line late b.pulls (told_is_read low w.begin)
        (told_stays low w.begin w.receiver w.time t s.at.once s.at.stood after wake.wakes) s.at quiet (subst (λ c. low_in w.senders.items w.last (until_by w.receiver (end_in w.ended) w.time) w.held c w.time ≡ c) (sym s.records.was) now)

    calm : IsCalm w t low
    calm u x y = (between_it (t - w.time) (omega (arith, le))).1 u x (omega (arith, y, le)) ∙ s.records.was

pub begun_later : (past : List Stretch) (w : EdgeWire) (t : ℕ) → IsBegunWith past w → w.begin < w.time → w.time ≤ t → t ≤ latest_heard → EachLine w.seats.items w.begin past t (StandsOnLine (at_time w t)) → IsBegunWith past (at_time w t)
begun_later past w t b after le near stands = record {
  early = b.early;
  from = omega (arith, b.from, le);
  near = near;
  sent = b.sent;
  pulls = begun_by w.begin past w.last w.time t le b.pulls;
  wave = b.wave;
  ends = b.ends;
  count = b.count;
  kept = kept_later w t le b.kept;
  fresh = λ e. absurd (omega (arith, e, after, le));
  level = b.level;
  stands = λ x. stands;
}

after_begin : (a b : ℕ) → a ≤ b → (b ≡ a → ⊥) → a < b
after_begin a b l n = elim (cases_lt a b) [ inl lt ↦ lt | inr ge ↦ absurd (n (omega (arith, ge, l))) ]

same_of : (a b : Bool) → beq a b ≡ true → a ≡ b
same_of true true e = refl
same_of true false e = cc
same_of false true e = cc
same_of false false e = refl

pub waits_later : (past : List Stretch) (w : EdgeWire) (until t : ℕ) (next : Option Stretch) → IsBegunWith past w → w.begin < w.time → w.time < until → IfSome next (λ p. w.time ≤ p.from) → IsWake w until next t → w.time ≤ t
waits_later past w until t next b after lt n wake =
    wake.later (omega (arith, lt)) (λ m e. wakes_ahead w.receiver (told_of (made_line w.seats.items w.begin (past ++ [])) w.begin) w.time
    (b.stands after [] (made_line w.seats.items w.begin (past ++ [])) (subst (λ (ps : List Stretch). IsWave ps) (sym (append-nil past)) b.wave) (λ i d l. absurd (omega (arith, l))) (made_round w.seats.items w.begin (past ++ []))).at.stood m e) n

-- what the code found of it
pub record Waits (w : EdgeWire) (until t : ℕ) (next : Option Stretch) : Type 0 where
  pub other : w.time ≡ w.begin → ⊥
  pub later : w.time < until
  pub near : until ≤ w.time + first_slot
  pub lasts : (u : ℕ) → w.time ≤ u → u < until → list_any (pull_in u) w.senders.items ≡ list_any (pull_in w.time) w.senders.items
  pub same : pulls_in w ≡ is_low_in w
  pub comes : IfSome next (λ p. w.time ≤ p.from)
  pub wake : IsWake w until next t

pub waits_after : (past : List Stretch) (w : EdgeWire) (until t : ℕ) (next : Option Stretch) → IsBegunWith past w → Waits w until t next → w.time ≤ t
waits_after past w until t next b k = waits_later past w until t next b (after_begin w.begin w.time b.from k.other) k.later k.comes k.wake

pub waits_calm : (past : List Stretch) (w : EdgeWire) (until t : ℕ) (next : Option Stretch) → IsBegunWith past w → Waits w until t next → EachLine w.seats.items w.begin past t (IsCalm w t)
waits_calm past w until t next b k later low wave late line =
    (waits_on past w until t next b (after_begin w.begin w.time b.from k.other) k.same k.lasts k.wake (waits_after past w until t next b k) later low wave late line).0

pub waits_so : (past : List Stretch) (w : EdgeWire) (until t : ℕ) (next : Option Stretch) → IsBegunWith past w → Waits w until t next → t < latest_heard → IsBegunWith past (at_time w t)
waits_so past w until t next b k near =
    begun_later past w t b (after_begin w.begin w.time b.from k.other) (waits_after past w until t next b k) (omega (arith, near))
    (λ later low wave late line. (waits_on past w until t next b (after_begin w.begin w.time b.from k.other) k.same k.lasts k.wake (waits_after past w until t next b k) later low wave late line).1)

-- as long as the senders stay as they are now
pub steady_low : (w : EdgeWire) (p : Pull) (until : ℕ) → ((t : ℕ) → w.time ≤ t → t < p.until → list_any (pull_in t) w.senders.items ≡ nat_lt t p.rise)
    → until ≤ p.until → ((u : ℕ) → w.time ≤ u → u < until → nat_lt u p.rise ≡ nat_lt w.time p.rise)
    → (u : ℕ) → w.time ≤ u → u < until → list_any (pull_in u) w.senders.items ≡ nat_lt w.time p.rise
steady_low w p until low s lasts u a b = low u a (omega (arith, b, s)) ∙ lasts u a b

-- with what the senders do as it was found at an instant before
pub waits_by : (w : EdgeWire) (from until t : ℕ) (is_low low was : Bool) (next : Option Stretch) → (w.time ≡ w.begin → ⊥) → from ≤ w.time → w.time < until → until ≤ from + first_slot
    → ((u : ℕ) → from ≤ u → u < until → list_any (pull_in u) w.senders.items ≡ is_low) → low ≡ pulls_in w → was ≡ is_low_in w → beq low was ≡ true → IfSome next (λ p. w.time ≤ p.from) → IsWake w until next t → Waits w until t next
waits_by w from until t is_low low was next n l m near lasts e f g comes wake = record {
  other = n;
  later = m;
  near = omega (arith, near, l);
  lasts = λ u a b. lasts u (omega (arith, l, a)) b ∙ sym (lasts w.time l m);
  same = sym e ∙ same_of low was g ∙ f;
  comes = comes;
  wake = wake;
}

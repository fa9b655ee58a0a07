-- A round that is taken edge by edge: the wire on which it goes, and the pulses that it is handed.
use Rattle.std.proofs.Common.{◌≡◌, ℕ, zero, suc, ◌+◌, ◌-◌, ◌<◌, ◌≤◌, Bool, true, false, nat_lt, if◌then◌else◌, List, [], ◌∷◌, ◌++◌, take, drop, length, slice_get, Option, Some, None, IfSome, MatchOption, is_some, refl, arith, ap, ◌∙◌, sym, subst}
use Rattle.std.specs.List.{All}
use Rattle.std.specs.Option.{option_map}
use Rattle.std.proofs.lemmas.Bool.Decides.{nat_tests}
use Rattle.std.proofs.lemmas.List.{length-map, take-append-drop}
use Rattle.line_wave.specs.declared.Stretch.{Stretch}
use Rattle.line_wave.specs.declared.Edge.{Edge}
use Rattle.line_wave.specs.Line.{Line, IsWave, IsWaveFrom}
use Rattle.line_wave.specs.Bounds.{latest_instant}
use Rattle.line_reading.specs.Phase.{Standing, at_rest, standing_of}
use Rattle.line_reading.specs.declared.receiver.Receiver.{Receiver}
use Rattle.line_reading.specs.Reading.{start_of}
use Rattle.line_reading.specs.Kept.{standing_by}
use Rattle.line_reading.specs.Follows.{ShowsStanding}
use Rattle.line_reading.proofs.Keeping.{standings_are_kept}
use Rattle.line_reading.proofs.Following.{empty_kept}
use Rattle.line_rounds.specs.declared.Seat.{Seat}
use Rattle.line_rounds.specs.declared.Outcome.{Outcome}
use Rattle.line_rounds.specs.Round.{IsRound, IsRoundLine}
use Rattle.line_rounds.specs.Edges.{IsNextEdge}
use Rattle.line_rounds.specs.Lasting.{is_begun}
use Rattle.line_rounds.proofs.Lasting.{begun_by, contended, low_at_begin}
use Rattle.line_wire.specs.declared.edge_wire.EdgeWire.{EdgeWire}
use Rattle.line_wave.specs.Pulls.{AreTimely}
use Rattle.line_wire.specs.Wired.{ArePulls, EachOf, IsBegunWith, IsReceiverIn, IsRoundOf, SameRound, is_silent_in}
use Rattle.device_core.specs.State.{State}
use Rattle.edid_tree.specs.Node.{Node}
use Rattle.room_net.specs.State.{NetState, next_start}
use Rattle.room_net.specs.Sound.{IsSound}
use Rattle.room_net.specs.Step.{seat_of, seats_of}
use Rattle.room_net.specs.Underway.{OfRound, standing_reported, idle, Takes, IsNextOn, IsUnderway}
use Rattle.room_net.proofs.Lines.{begun, late_start}

-- ---- the pulses

all_of : (ps : List Stretch) (w : EdgeWire) → ps ≡ take w.begun ps ++ drop w.begun ps
all_of ps w = sym (take-append-drop w.begun ps)

left_late : (ps : List Stretch) (w : EdgeWire) → Takes ps w → All (λ p. w.time ≤ p.from) (drop w.begun ps)
left_late ps w h = subst (λ (k : ℕ). All (λ (p : Stretch). w.time ≤ p.from) (drop k ps)) (sym h.stands.count) h.pulls.later

pub takes_on : (ps : List Stretch) (new : EdgeWire) → IsBegunWith (take new.begun ps) new → ArePulls (take new.begun ps) ps new → Takes ps new
takes_on ps new b p = record { stands = b; pulls = p }

-- a fact of each line that the round can have is one of its line with these pulses
pub of_line : (ps : List Stretch) (w : EdgeWire) (P : (ℕ → Bool) → Type 0) → Takes ps w → EachOf (take w.begun ps) w P → (low : ℕ → Bool) → IsRoundLine w.seats.items w.begin ps low → P low
of_line ps w P h e low line =
    e (drop w.begun ps) low (subst (λ (qs : List Stretch). IsWave qs) (all_of ps w) h.pulls.wave) (left_late ps w h) (subst (λ (qs : List Stretch). IsRoundLine w.seats.items w.begin qs low) (all_of ps w) line)

pub goes_on_when : (edge : Option Edge) (old new : EdgeWire) → is_some edge ≡ true → MatchOption edge (is_silent_in new ≡ true) (λ e. old.time < new.time) → old.time < new.time
goes_on_when None old new e g = cc
goes_on_when (Some edge) old new e g = g

pub silent_when : (edge : Option Edge) (w : EdgeWire) (P : Edge → Type 0) → is_some edge ≡ false → MatchOption edge (is_silent_in w ≡ true) P → is_silent_in w ≡ true
silent_when None w P e m = m
silent_when (Some edge) w P e m = cc

pub round_on : (ps : List Stretch) (w : EdgeWire) (o : Outcome) → Takes ps w → IsRoundOf (take w.begun ps) w o → IsRound w.seats.items w.begin ps o
round_on ps w o h r =
    subst (λ (qs : List Stretch). IsRound w.seats.items w.begin qs o) (sym (all_of ps w)) (r (drop w.begun ps) (subst (λ (qs : List Stretch). IsWave qs) (all_of ps w) h.pulls.wave) (left_late ps w h))

later_all : (t n : ℕ) (ss : List Stretch) → t ≤ n → IsWaveFrom n ss → All (λ p. t ≤ p.from) ss
later_all t n [] l w i d m = absurd (omega (arith, m))
later_all t n (s ∷ ss) l w zero d m = omega (arith, l, w.0)
later_all t n (s ∷ ss) l w (suc i) d m = later_all t (s.to + 1) ss (omega (arith, l, w.0, w.1)) w.2 i d (omega (arith, m))

-- where the first of them begins at t or later, all of them do
late_all : (t : ℕ) (ss : List Stretch) → IsWave ss → IfSome (slice_get ss 0) (λ p. t ≤ p.from) → All (λ p. t ≤ p.from) ss
late_all t [] w l i d m = absurd (omega (arith, m))
late_all t (s ∷ ss) w l zero d m = l
late_all t (s ∷ ss) w l (suc i) d m = later_all t (s.to + 1) ss (omega (arith, l, w.1)) w.2 i d (omega (arith, m))

-- as the round begins none has begun
pub takes_first : (s : NetState) (begin : ℕ) (w : EdgeWire) → AreTimely s.pulses → next_start s ≡ Some begin → IsBegunWith [] w → w.begin ≡ begin → w.time ≡ begin → Takes s.pulses w
takes_first s begin w timely next b begins time = record {
  stands = subst (λ (ps : List Stretch). IsBegunWith ps w) none b;
  pulls = record {
    wave = timely.order;
    ends = timely.ends;
    begun = sym none ∙ ap (λ (k : ℕ). take k s.pulses) (ap (λ (ps : List Stretch). length ps) none);
    later = subst (λ (k : ℕ). All (λ (p : Stretch). w.time ≤ p.from) (drop k s.pulses)) (ap (λ (ps : List Stretch). length ps) none)
        (subst (λ (u : ℕ). All (λ (p : Stretch). u ≤ p.from) s.pulses) (sym time) (late_all begin s.pulses timely.order (late_start s begin next)));
  };
}
  where
    none : [] ≡ take w.begun s.pulses
    none = ap (λ (k : ℕ). take k s.pulses) (let c : zero ≡ w.begun = sym b.count in c)

-- ---- the round of a network

pub sound_so : (s : NetState) → IsSound (idle s) → IsSound s
sound_so s h = record { few = h.few; matched = h.matched; rested = h.rested; closed = h.closed; ready = h.ready; early = h.early; ends = h.ends; later = h.later; orderly = h.orderly }

pub none_underway : (s : NetState) (o : Option EdgeWire) → option_map (λ w. w.time) o ≡ None → IsUnderway s o
none_underway s None e w f = cc
none_underway s (Some v) e w f = cc

pub no_underway : (s : NetState) (o : Option EdgeWire) → is_some o ≡ false → IsUnderway s o
no_underway s None e w f = cc
no_underway s (Some v) e w f = cc

pub no_wire : (s : NetState) → IsUnderway s None
no_wire s w f = cc

pub underway_along : (s t : NetState) (o : Option EdgeWire) → s ≡ t → IsUnderway (idle s) o → IsUnderway (idle t) o
underway_along s t o e h = subst (λ x. IsUnderway (idle x) o) e h

pub is_next : (s : NetState) (begin : ℕ) (w : EdgeWire) → IsSound s → s.close ≤ latest_instant → AreTimely s.pulses → next_start s ≡ Some begin → IsBegunWith [] w → w.seats.items ≡ seats_of s begin → w.begin ≡ begin → w.time ≡ begin
    → IsNextOn s w
is_next s begin w sound early timely next b seats begins time = record {
  begins = next ∙ ap Some (sym begins);
  early = early;
  seats = seats ∙ ap (seats_of s) (sym begins);
  takes = takes_first s begin w timely next b begins time;
}

pub next_on : (s : NetState) (old new : EdgeWire) → IsNextOn s old → SameRound old new → Takes s.pulses new → IsNextOn s new
next_on s old new h same takes = record {
  begins = h.begins ∙ ap Some (sym same.begin);
  early = h.early;
  seats = same.seats ∙ h.seats ∙ ap (seats_of s) (sym same.begin);
  takes = takes;
}

pub some_wire : (s : NetState) (w : EdgeWire) → IsNextOn s w → IsUnderway s (Some w)
some_wire s w h v e = let f : w ≡ v = some_is w v e in subst (λ x. IsNextOn s x) f h
  where
    some_is : (x y : EdgeWire) → Some x ≡ Some y → x ≡ y
    some_is x y e = ap (λ (o : Option EdgeWire). from x o) e
      where
        from : EdgeWire → Option EdgeWire → EdgeWire
        from d None = d
        from d (Some z) = z

same_number : (x y : ℕ) → Some x ≡ Some y → x ≡ y
same_number x y e = cc

-- the line of the round on the wire is the network's next round's
line_on : (s : NetState) (w : EdgeWire) (begin : ℕ) (low : Line) → IsNextOn (idle s) w → next_start s ≡ Some begin → IsRoundLine (seats_of s begin) begin s.pulses low → IsRoundLine w.seats.items w.begin s.pulses low
line_on s w begin low h n line =
    let b : begin ≡ w.begin = same_number begin w.begin (sym n ∙ h.begins) in
    subst (λ x. IsRoundLine x w.begin s.pulses low) (sym h.seats) (subst (λ x. IsRoundLine (seats_of s x) x s.pulses low) b line)

pub edge_reported : (s t : NetState) (w : EdgeWire) (edge : Option Edge) → s ≡ t → s.heard ≡ Some w.time → IsNextOn (idle s) w
    → ((low : ℕ → Bool) → IsRoundLine w.seats.items w.begin s.pulses low → IsNextEdge low w.time edge) → OfRound t (λ begin heard low. IsNextEdge low heard edge)
edge_reported s t w edge e reported h step =
    subst (λ x. OfRound x (λ begin heard low. IsNextEdge low heard edge)) e
    (λ begin heard low n k line. subst (λ x. IsNextEdge low x edge) (same_number w.time heard (sym reported ∙ k)) (step low (line_on s w begin low h n line)))

stand_at : (s : NetState) (w : EdgeWire) (low : Line) (standing : Standing) → IsWave s.pulses → IsNextOn (idle s) w → IsRoundLine w.seats.items w.begin s.pulses low → (w.time ≡ w.begin → standing ≡ at_rest false)
    → (w.begin < w.time → EachOf (take w.begun s.pulses) w (λ l. l w.begin ≡ true → standing ≡ standing_of l (w.time - 1))) → standing ≡ standing_reported low w.begin w.time
stand_at s w low standing order h line before after = by_time (nat_lt w.begin w.time) refl
  where
    falls : low w.begin ≡ true
    falls =
        low_at_begin w.seats.items w.begin s.pulses low order (contended w.seats.items w.begin s.pulses low line) (begun_by low w.begin (start_of low w.begin) refl).reports
        (subst (λ x. is_begun_by x) (sym h.seats) (begun s w.begin h.begins))
      where
        is_begun_by : List Seat → Type 0
        is_begun_by x = is_begun x w.begin s.pulses ≡ true

    by_time : (b : Bool) → nat_lt w.begin w.time ≡ b → standing ≡ (if b then standing_of low (w.time - 1) else at_rest false)
    by_time true e = of_line s.pulses w (λ l. l w.begin ≡ true → standing ≡ standing_of l (w.time - 1)) h.takes (after (grind (arith, nat_tests))) low line falls
    by_time false e = before (let l : w.begin ≤ w.time = h.takes.stands.from in grind (arith, nat_tests))

-- what a receiver shows before its first edge, and by the last instant that was heard
pub shows_before : (past : List Stretch) (w : EdgeWire) (r : Receiver) (standing : Standing) → IsReceiverIn past w r → ShowsStanding r standing → w.time ≡ w.begin → standing ≡ at_rest false
shows_before past w r standing h shows e = shows (λ u. false) w.begin (h.before e) ∙ sym (standings_are_kept (λ u. false) w.begin) ∙ ap (λ k. standing_by k false) (sym (empty_kept w.begin))

pub shows_after : (past : List Stretch) (w : EdgeWire) (r : Receiver) (standing : Standing) → IsReceiverIn past w r → ShowsStanding r standing → w.begin < w.time → EachOf past w (λ low. low w.begin ≡ true → standing ≡ standing_of low (w.time - 1))
shows_after past w r standing h shows l later low wave late line first = shows low (w.time - 1) (h.stands l later low wave late line first)

pub stand_reported : (s t : NetState) (w : EdgeWire) (standing : Standing) → s ≡ t → s.heard ≡ Some w.time → IsWave s.pulses → IsNextOn (idle s) w → (w.time ≡ w.begin → standing ≡ at_rest false)
    → (w.begin < w.time → EachOf (take w.begun s.pulses) w (λ low. low w.begin ≡ true → standing ≡ standing_of low (w.time - 1))) → OfRound t (λ begin heard low. standing ≡ standing_reported low begin heard)
stand_reported s t w standing e reported order h before after =
    subst (λ x. OfRound x (λ begin heard low. standing ≡ standing_reported low begin heard)) e
    (λ begin heard low n k line.
    subst (λ x. standing ≡ standing_reported low x heard) (same_number w.begin begin (sym h.begins ∙ n))
    (subst (λ x. standing ≡ standing_reported low w.begin x) (same_number w.time heard (sym reported ∙ k))
    (stand_at s w low standing order h (line_on s w begin low h n line) before after)))

pub seat_known : (s : NetState) (w : EdgeWire) (number : ℕ) → IsSound s → IsNextOn s w → number < length s.tree → number < length w.seats.items
seat_known s w number h n l =
    let e : length w.seats.items ≡ length s.devices = ap length n.seats ∙ length-map s.devices (seat_of s.rest w.begin) in
    omega (arith, e, h.matched, l)

-- ---- copies

pub same_state : (s : NetState) (o p : Option EdgeWire) (tree : List Node) (devices : List State) (pulses : List Stretch) → tree ≡ s.tree → devices ≡ s.devices → pulses ≡ s.pulses → p ≡ o
    → IsSound s × IsUnderway s o → IsSound (record s { tree = tree; devices = devices; pulses = pulses }) × IsUnderway (record s { tree = tree; devices = devices; pulses = pulses }) p
same_state s o p tree devices pulses a b c d h =
    let e : record s { tree = tree; devices = devices; pulses = pulses } ≡ s = (λ i. record s { tree = a i; devices = b i; pulses = c i }) in
    let Keeps : NetState → Type 0 = λ t. IsSound t × IsUnderway t p in
    subst Keeps (sym e) (h.0, subst (λ q. IsUnderway s q) (sym d) h.1)

-- ---- the end

pub round_is : (s : NetState) (w : EdgeWire) (begin : ℕ) (ps : List Stretch) (o : Outcome) → IsNextOn s w → begin ≡ w.begin → ps ≡ s.pulses → IsRound w.seats.items w.begin ps o → IsRound (seats_of s begin) begin s.pulses o
round_is s w begin ps o h b p r =
    subst (λ x. IsRound (seats_of s x) x s.pulses o) (sym b) (subst (λ x. IsRound x w.begin s.pulses o) h.seats (subst (λ x. IsRound w.seats.items w.begin x o) p r))

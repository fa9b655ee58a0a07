-- Along the slots of a reading.
use Rattle.std.proofs.Common.{◌≡◌, ℕ, suc, ◌+◌, ◌-◌, ◌*◌, ◌<◌, ◌≤◌, Bool, true, false, nat_lt, if◌then◌else◌, List, [], ◌∷◌, ◌++◌, length, append_assoc, inl, inr, Option, Some, None, IsSome, refl, arith, ap, ◌∙◌, sym}
use Rattle.std.specs.List.{filter_map}
use Rattle.std.specs.Option.{option_to_list}
use Rattle.std.proofs.lemmas.Bool.Decides.{nat_tests}
use Rattle.line_wave.specs.declared.Stretch.{Stretch}
use Rattle.line_wave.specs.Line.{Line, is_fall}
use Rattle.line_wave.specs.Pulses.{AreSparse}
use Rattle.line_frames.specs.Bits.{frame_bits, least_among}
use Rattle.line_frames.specs.declared.Ending.{Ending}
use Rattle.line_frames.specs.declared.Ending.TheVariants.{Short}
use Rattle.line_reading.specs.Reading.After.{Next, Ends}
use Rattle.line_reading.specs.Windows.{standard, sample_at}
use Rattle.line_reading.specs.Reading.{next_fall, Read, Slot, Known, read_slots, read_on, read_then, after_slot, after_fall, after_last, last_ending, bit_sampled_at}
use Rattle.line_reading.proofs.Search.{found_first}
pub use Rattle.line_reading.proofs.AlongBy.{quiet_sample, reported_more}
use Rattle.line_reading.proofs.Causes.{known_in_slot}
use Rattle.line_rounds.specs.declared.Seat.{Seat}
use Rattle.line_rounds.specs.Round.{frames_of}
use Rattle.line_rounds.specs.Contend.{IsContended, Stays}
use Rattle.line_rounds.specs.Slots.{NextFalls, NextFall}
use Rattle.line_rounds.specs.Elements.{In}
use Rattle.line_rounds.specs.Begins.{Reports}
use Rattle.line_rounds.specs.Follow.{AreDone}
use Rattle.line_rounds.specs.Reached.{ReachNext, KnownUnsampled, AreOver, Reached}
use Rattle.line_rounds.proofs.Early.{OnTime, falls_so, next_on_time}
use Rattle.line_reading.specs.Known.{with_slots, AreSampled}

slots_assoc : (xs : List Slot) (s : Slot) (r : Read) → with_slots (xs ++ s ∷ []) r ≡ with_slots xs (read_then s r)
slots_assoc xs s r = ap (λ (ys : List Slot). let q : Read = record { slots = ys; ending = r.ending; at = r.at; until = r.until } in q) (append_assoc xs (s ∷ []) r.slots)

-- ---- a slot and the next one

pub next_falls : NextFalls
next_falls low e bits f h = by_last (last_ending bits) refl h
  where
    made : (g : ℕ) → last_ending bits ≡ None → next_fall low e standard.bit_total.most ≡ Some g → g ≡ f → nat_lt g (e + standard.bit_total.least) ≡ false → NextFall low e bits f
    made g l s same late =
        let d = found_first (is_fall low) (e + 1) standard.bit_total.most g s in
        record { last = l; fall = rw (sym same) d.passes; quiet = λ u a b. d.first u (omega arith) (omega arith); near = omega (arith, d.within, same); far = grind (arith, nat_tests) }

    by_time : (g : ℕ) (b : Bool) → last_ending bits ≡ None → next_fall low e standard.bit_total.most ≡ Some g → nat_lt g (e + standard.bit_total.least) ≡ b → (if b then Ends Short g else Next g) ≡ Next f → NextFall low e bits f
    by_time g true l s t k = cc
    by_time g false l s t k = made g l s (let x : g ≡ f = cc in x) t

    by_fall : (o : Option ℕ) → last_ending bits ≡ None → next_fall low e standard.bit_total.most ≡ o → after_fall e o ≡ Next f → NextFall low e bits f
    by_fall None l s k = cc
    by_fall (Some g) l s k = by_time g (nat_lt g (e + standard.bit_total.least)) l s refl k

    no_last : (ending : Ending) (o : Option ℕ) → after_last e ending o ≡ Next f → NextFall low e bits f
    no_last ending None k = cc
    no_last ending (Some g) k = cc

    by_last : (last : Option Ending) → last_ending bits ≡ last → after_slot low e last ≡ Next f → NextFall low e bits f
    by_last None l k = by_fall (next_fall low e standard.bit_total.most) l refl k
    by_last (Some ending) l k = no_last ending (next_fall low e sample_at) k

-- ---- where the reading has come

over_later : (e f : ℕ) (ss : List Slot) → e ≤ f → AreOver e ss → AreOver f ss
over_later e f [] h o = tt
over_later e f (s ∷ ss) h o = (omega (arith, o.0), over_later e f ss h o.1)

over_more : (f : ℕ) (ss : List Slot) (s : Slot) → AreOver f ss → s.fall + standard.bit_total.least ≤ f → AreOver f (ss ++ s ∷ [])
over_more f [] s o h = (h, tt)
over_more f (x ∷ ss) s o h = (o.0, over_more f ss s o.1 h)

pub over_done : (f : ℕ) (ss : List Slot) → AreOver f ss → AreDone f ss
over_done f [] o = tt
over_done f (s ∷ ss) o = (omega (arith, o.0), over_done f ss o.1)

pub over_sampled : (e t : ℕ) (ss : List Slot) → e ≤ t → AreOver e ss → AreSampled t ss
over_sampled e t [] h o = tt
over_sampled e t (s ∷ ss) h o = (omega (arith, o.0), over_sampled e t ss h o.1)

pub reach_next : ReachNext
unfolding read_slots
reach_next low begin left xs bits e f r h far = record {
  goes = slots_assoc xs slot (read_slots low left (bits ++ option_to_list (bit_sampled_at low e)) f)
      ∙ ap (λ a. with_slots xs (read_then slot (read_on (read_slots low left (bits ++ option_to_list (bit_sampled_at low e))) a))) (sym h)
      ∙ r.goes;
  reported = reported_more xs bits slot r.reported;
  over = over_more f xs slot (over_later e f xs (omega arith) r.over) far;
}
  where
    slot : Slot
    slot = record { fall = e; bit = bit_sampled_at low e }

-- after the slot's sample and up to the next fall all its slots are known
pub known_next : (low : Line) (begin left : ℕ) (xs : List Slot) (bits : List Bool) (e f t : ℕ) → Reached low begin (suc left) xs bits e
    → NextFall low e bits f → e + sample_at < t → t ≤ f → Reports low begin t (xs ++ record { fall = e; bit = bit_sampled_at low e } ∷ [])
known_next low begin left xs bits e f t r n l m =
    known_in_slot low begin t e left xs bits r.goes (over_sampled e t xs (omega arith) r.over) (omega arith) (λ u a b. n.quiet u a (omega arith)) (omega (arith, n.near)) (no_some (last_ending bits) n.last)
    ∙ ap (λ (c : Bool). let k : Known = record { slots = xs ++ record { fall = e; bit = if c then bit_sampled_at low e else None } ∷ []; ended = None } in k) yes
  where
    yes : nat_lt (e + sample_at) t ≡ true
    yes = grind (arith, nat_tests)

    no_some : (o : Option Ending) → o ≡ None → IsSome o → t ≤ e + sample_at
    no_some None h s = cc
    no_some (Some x) h s = cc

-- until the sample its bit is not
pub known_unsampled : KnownUnsampled
known_unsampled low begin left xs bits e t r q l m =
    known_in_slot low begin t e left xs bits r.goes (over_sampled e t xs (omega arith) r.over) l q (omega arith) (λ s. m)
    ∙ ap (λ (c : Bool). let k : Known = record { slots = xs ++ record { fall = e; bit = if c then bit_sampled_at low e else None } ∷ []; ended = None } in k) no_
  where
    no_ : nat_lt (e + sample_at) t ≡ false
    no_ = grind (arith, nat_tests)

-- ---- on time from slot to slot

-- what the walks hold fixed: a round's line, and a winner
pub record Scene (seats : List Seat) (begin : ℕ) (pulses : List Stretch) (low : Line) (w : List ℕ) : Type 0 where
  pub line : IsContended seats begin pulses low
  pub sparse : AreSparse pulses
  pub sends : In w (frames_of seats)
  pub least : least_among (frames_of seats) w ≡ true

pub step_on_time : (seats : List Seat) (begin : ℕ) (pulses : List Stretch) (low : Line) (w : List ℕ) → Scene seats begin pulses low w
    → (left : ℕ) (xs : List Slot) (bits : List Bool) (e own f k : ℕ) → Reached low begin (suc left) xs bits e → NextFall low e bits f
    → own ≡ begin + 4500 + 2400 * k → k + 1 < length (frame_bits w) → OnTime pulses e own
    → Stays (bits ++ option_to_list (bit_sampled_at low e)) (frame_bits w) → OnTime pulses f (own + 2400)
step_on_time seats begin pulses low w z left xs bits e own f k r n o room time stays =
    next_on_time pulses e own f z.sparse time n.far n.near
    (falls_so seats begin pulses low w (own + 2400) (k + 1) f zs z.line z.sends z.least stays2 (omega arith) room n.fall
    (known_next low begin left xs bits e f f r n (omega (arith, n.far)) (omega arith))
    (known_next low begin left xs bits e f (f - 1) r n (omega (arith, n.far)) (omega arith))
    (over_done f zs (over_more f xs (record { fall = e; bit = bit_sampled_at low e }) (over_later e f xs (omega (arith, n.far)) r.over) n.far))
    (near time) (far time))
  where
    zs : List Slot
    zs = xs ++ record { fall = e; bit = bit_sampled_at low e } ∷ []

    stays2 : Stays (filter_map (λ s. s.bit) zs) (frame_bits w)
    stays2 = rw (reported_more xs bits (record { fall = e; bit = bit_sampled_at low e }) r.reported) stays

    near : OnTime pulses e own → own + 2400 ≤ f + 800
    near (inl h) = omega (arith, h, n.far)
    near (inr h) = omega (arith, h.1, n.far)

    far : OnTime pulses e own → f < own + 2400 + 600
    far (inl h) = omega (arith, h, n.near)
    far (inr h) = omega (arith, h.0, n.near)

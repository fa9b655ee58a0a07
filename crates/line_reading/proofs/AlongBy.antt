-- Along the slots of a reading.
use Rattle.std.proofs.Common.{◌≡◌, ℕ, suc, ◌+◌, ◌-◌, ◌==◌, ◌%◌, ◌<◌, ◌≤◌, Bool, true, false, nat_lt, if◌then◌else◌, List, [], ◌∷◌, ◌++◌, length, slice_index_or, append_assoc, inl, inr, Option, Some, None, Ok, refl, arith, ap, ◌∙◌, sym}
use Rattle.std.specs.List.{cons_option}
use Rattle.std.specs.Option.{option_to_list}
use Rattle.std.proofs.lemmas.List.Elements.{filter_map-append}
use Rattle.std.proofs.lemmas.Bool.{cases_lt}
use Rattle.line_wave.specs.Line.{Line, is_fall}
use Rattle.line_frames.specs.declared.Ending.{Ending}
use Rattle.line_frames.specs.declared.Ending.TheVariants.{Complete, Short, Long}
use Rattle.line_reading.specs.Reading.After.{Next, Ends}
use Rattle.line_reading.specs.Reading.{next_fall, Read, Slot, Known, known_at, known_slot, reading_by, read_start_by, slots_by, read_on, read_then, after_by, after_fall_by, after_last, last_ending, last_heard, sample, bit_sampled_at, start_by, After}
use Rattle.line_reading.proofs.Search.{first_in_none, first_in_some, found_first}
use Rattle.line_reading.proofs.CausesBy.{known_front, known_then, late_read, not_over}
use Rattle.line_reading.proofs.EndsBy.{slots_until}
use Rattle.line_reading.specs.declared.times.Windows.{Windows}
use Rattle.line_reading.specs.Windows.{AreWindows, sample_at}
use Rattle.line_reading.specs.Known.{with_slots, AreSampled, nothing, QuietSlotsAreSampled, SlotsAddTheirBits}
use Rattle.line_reading.specs.Places.{AreOver, Reached}

-- ---- the slot at e, on a line that does not fall up to t

pub quiet_sample : QuietSlotsAreSampled
quiet_sample low e q = ap (sample low e) (first_in_none (is_fall low) (e + 1) sample_at (λ u a b. q u (omega arith) (omega arith)))

pub next_here : (low : Line) (fall t within : ℕ) → ((u : ℕ) → fall < u → u < t → is_fall low u ≡ false) → fall < t → t ≤ fall + within → is_fall low t ≡ true → next_fall low fall within ≡ Some t
next_here low fall t within q a l f = first_in_some (is_fall low) (fall + 1) within t (omega arith) (omega arith) f (λ u b c. q u (omega arith) c)

pub next_none : (low : Line) (fall t within : ℕ) → ((u : ℕ) → fall < u → u < t → is_fall low u ≡ false) → fall + within < t → next_fall low fall within ≡ None
next_none low fall t within q l = first_in_none (is_fall low) (fall + 1) within (λ u b c. q u (omega arith) (omega arith))

pub slots_assoc : (xs : List Slot) (s : Slot) (r : Read) → with_slots (xs ++ s ∷ []) r ≡ with_slots xs (read_then s r)
slots_assoc xs s r = ap (λ (ys : List Slot). let q : Read = record { slots = ys; ending = r.ending; at = r.at; until = r.until } in q) (append_assoc xs (s ∷ []) r.slots)

one_reported : (o : Option Bool) → cons_option o [] ≡ option_to_list o
one_reported None = refl
one_reported (Some b) = refl

pub reported_more : SlotsAddTheirBits
reported_more xs bits s h = filter_map-append (λ (x : Slot). x.bit) xs (s ∷ []) ∙ ap (λ ys. ys ++ cons_option s.bit []) h ∙ ap (λ ys. bits ++ ys) (one_reported s.bit)

-- the 160th slot is a last one
pub last_full : (bits : List Bool) → length bits ≡ 159 → last_ending bits ≡ None → ⊥
last_full bits n h = by_bit (slice_index_or bits (length bits - 1) false) (sym (ap (λ m. ending m (slice_index_or bits (length bits - 1) false)) n) ∙ h)
  where
    ending : ℕ → Bool → Option Ending
    ending m b = if m % 10 == 9 then (if b then Some Complete else if m == 159 then Some Long else None) else None

    by_bit : (b : Bool) → (if b then Some Complete else Some Long) ≡ None → ⊥
    by_bit true e = cc
    by_bit false e = cc

-- ---- what is known in a slot

-- what follows it, where it has not come by t
IsYet : ℕ → After → Type 0
IsYet t (Next f) = t ≤ f
IsYet t (Ends ending at) = t ≤ at

-- a fall that is found is not before t
no_sooner : (low : Line) (e t within f : ℕ) → ((u : ℕ) → e < u → u < t → is_fall low u ≡ false) → next_fall low e within ≡ Some f → t ≤ f
no_sooner low e t within f q h =
    let d = found_first (is_fall low) (e + 1) within f h in
    elim (cases_lt f t) [
      | inl lt ↦ (let x : true ≡ false = sym d.passes ∙ q f (omega (arith, d.after)) lt in cc)
      | inr ge ↦ ge
    ]

-- the reading ends no sooner
at_on : (rest : ℕ → Read) (t : ℕ) (a : After) → IsYet t a → ((f : ℕ) → f ≤ (rest f).at) → t ≤ (read_on rest a).at
unfolding IsYet
at_on rest t (Next f) h ih = omega (arith, ih f)
at_on rest t (Ends ending at) h ih = h

module _ (win : Windows) (ok : AreWindows win) where
  over_later : (e f : ℕ) (ss : List Slot) → e ≤ f → AreOver win e ss → AreOver win f ss
  over_later e f [] h o = tt
  over_later e f (s ∷ ss) h o = (omega (arith, o.0), over_later e f ss h o.1)

  over_more : (f : ℕ) (ss : List Slot) (s : Slot) → AreOver win f ss → s.fall + win.bit_total.least ≤ f → AreOver win f (ss ++ s ∷ [])
  over_more f [] s o h = (h, tt)
  over_more f (x ∷ ss) s o h = (o.0, over_more f ss s o.1 h)

  pub over_sampled : (e t : ℕ) (ss : List Slot) → e ≤ t → AreOver win e ss → AreSampled t ss
  over_sampled e t [] h o = tt
  over_sampled e t (s ∷ ss) h o = (omega (arith, o.0), over_sampled e t ss h o.1)

  pub reached_start : (low : Line) (begin f : ℕ) → start_by win low begin ≡ Ok f → Reached win low begin 160 [] [] f
  reached_start low begin f h = record { goes = ap (λ s. read_start_by win low begin s) (sym h); reported = refl; over = tt }

  pub reach_next : (low : Line) (begin left : ℕ) (xs : List Slot) (bits : List Bool) (e f : ℕ) → Reached win low begin (suc left) xs bits e
      → after_by win low e (last_ending bits) ≡ Next f → e + win.bit_total.least ≤ f
      → Reached win low begin left (xs ++ record { fall = e; bit = bit_sampled_at low e } ∷ []) (bits ++ option_to_list (bit_sampled_at low e)) f
  unfolding slots_by
  reach_next low begin left xs bits e f r h far = record {
    goes = slots_assoc xs slot (slots_by win low left (bits ++ option_to_list (bit_sampled_at low e)) f)
        ∙ ap (λ a. with_slots xs (read_then slot (read_on (slots_by win low left (bits ++ option_to_list (bit_sampled_at low e))) a))) (sym h)
        ∙ r.goes;
    reported = reported_more xs bits slot r.reported;
    over = over_more f xs slot (over_later e f xs (omega arith) r.over) far;
  }
    where
      slot : Slot
      slot = record { fall = e; bit = bit_sampled_at low e }

  -- the reading ends in this slot
  pub ends_so : (low : Line) (begin left : ℕ) (xs : List Slot) (before : List Bool) (e : ℕ) (ending : Ending) (at : ℕ) → Reached win low begin (suc left) xs before e → after_by win low e (last_ending before) ≡ Ends ending at
      → reading_by win low begin ≡ record { slots = xs ++ record { fall = e; bit = bit_sampled_at low e } ∷ []; ending = ending; at = at; until = last_heard ending at }
  unfolding slots_by
  ends_so low begin left xs before e ending at r h =
      sym r.goes ∙ ap (λ a. with_slots xs (read_then (record { fall = e; bit = bit_sampled_at low e }) (read_on (slots_by win low left (before ++ option_to_list (bit_sampled_at low e))) a))) h

  none_yet : (low : Line) (left : ℕ) (bits : List Bool) (t : ℕ) (a : After) → IsYet t a → (known_at t (read_on (slots_by win low left bits) a)).slots ≡ []
  unfolding IsYet nothing
  none_yet low left bits t (Next f) h = ap (λ (k : Known). k.slots) (late_read win ok t low left bits f h)
  none_yet low left bits t (Ends ending at) h = refl

  slots_here : (low : Line) (begin left : ℕ) (xs : List Slot) (bits : List Bool) (e t : ℕ) → Reached win low begin (suc left) xs bits e → e < t
      → known_at t (reading_by win low begin) ≡ record {
        slots = xs ++ known_slot t (record { fall = e; bit = bit_sampled_at low e }) ∷ (known_at t (read_on (slots_by win low left (bits ++ option_to_list (bit_sampled_at low e))) (after_by win low e (last_ending bits)))).slots;
        ended = (known_at t (read_on (slots_by win low left (bits ++ option_to_list (bit_sampled_at low e))) (after_by win low e (last_ending bits)))).ended;
      }
  unfolding slots_by
  slots_here low begin left xs bits e t r l =
      ap (known_at t) (sym r.goes)
      ∙ known_front t xs (slots_by win low (suc left) bits e) (over_sampled e t xs (omega arith) r.over)
      ∙ ap (λ (n : Known). let m : Known = record { slots = xs ++ n.slots; ended = n.ended } in m)
      (known_then t (record { fall = e; bit = bit_sampled_at low e }) (read_on (slots_by win low left (bits ++ option_to_list (bit_sampled_at low e))) (after_by win low e (last_ending bits))) l)

  -- what a slot leads to comes later, where the line does not fall before t and no ending is due
  pub record Waits (low : Line) (e t : ℕ) (last : Option Ending) : Type 0 where
    pub after : e < t
    pub quiet : (u : ℕ) → e < u → u < t → is_fall low u ≡ false
    pub early : t ≤ e + (win.bit_total.most + 1)
    pub plain : (ending : Ending) → last ≡ Some ending → t ≤ e + sample_at

  yet : (low : Line) (e t : ℕ) (last : Option Ending) → Waits low e t last → IsYet t (after_by win low e last)
  unfolding IsYet
  yet low e t None w = by_fall (next_fall low e win.bit_total.most) refl
    where
      by_fall : (o : Option ℕ) → next_fall low e win.bit_total.most ≡ o → IsYet t (after_fall_by win e o)
      by_fall None h = w.early
      by_fall (Some f) h =
          elim (nat_lt f (e + win.bit_total.least)) as (λ b. IsYet t (if b then Ends Short f else Next f)) [ true ↦ no_sooner low e t win.bit_total.most f w.quiet h | false ↦ no_sooner low e t win.bit_total.most f w.quiet h ]
  yet low e t (Some ending) w = by_fall (next_fall low e sample_at) refl
    where
      by_fall : (o : Option ℕ) → next_fall low e sample_at ≡ o → IsYet t (after_last e ending o)
      by_fall None h = w.plain ending refl
      by_fall (Some f) h = no_sooner low e t sample_at f w.quiet h

  -- so its slots are those so far, and its own
  pub known_waiting : (low : Line) (begin left : ℕ) (xs : List Slot) (bits : List Bool) (e t : ℕ) → Reached win low begin (suc left) xs bits e → Waits low e t (last_ending bits)
      → (known_at t (reading_by win low begin)).slots ≡ xs ++ known_slot t (record { fall = e; bit = bit_sampled_at low e }) ∷ []
  known_waiting low begin left xs bits e t r w =
      ap (λ (k : Known). k.slots) (slots_here low begin left xs bits e t r w.after)
      ∙ ap (λ (ss : List Slot). xs ++ known_slot t (record { fall = e; bit = bit_sampled_at low e }) ∷ ss)
      (none_yet low left (bits ++ option_to_list (bit_sampled_at low e)) t (after_by win low e (last_ending bits)) (yet low e t (last_ending bits) w))

  -- and where it ends there, too
  pub known_ending : (low : Line) (begin left : ℕ) (xs : List Slot) (bits : List Bool) (e t : ℕ) (ending : Ending) (at : ℕ) → Reached win low begin (suc left) xs bits e → e < t
      → after_by win low e (last_ending bits) ≡ Ends ending at → (known_at t (reading_by win low begin)).slots ≡ xs ++ known_slot t (record { fall = e; bit = bit_sampled_at low e }) ∷ []
  known_ending low begin left xs bits e t ending at r l h =
      ap (λ (k : Known). k.slots) (slots_here low begin left xs bits e t r l)
      ∙ ap (λ a. xs ++ known_slot t (record { fall = e; bit = bit_sampled_at low e }) ∷ (known_at t (read_on (slots_by win low left (bits ++ option_to_list (bit_sampled_at low e))) a)).slots) h

  pub ends_later : (low : Line) (begin left : ℕ) (xs : List Slot) (bits : List Bool) (e t : ℕ) → Reached win low begin (suc left) xs bits e → Waits low e t (last_ending bits) → t ≤ (reading_by win low begin).at
  unfolding slots_by
  ends_later low begin left xs bits e t r w =
      let x = at_on (slots_by win low left (bits ++ option_to_list (bit_sampled_at low e))) t (after_by win low e (last_ending bits)) (yet low e t (last_ending bits) w)
      (λ f. let n = not_over win ok low left (bits ++ option_to_list (bit_sampled_at low e)) f in omega (arith, n, slots_until win ok low left (bits ++ option_to_list (bit_sampled_at low e)) f)) in
      rw (ap (λ (q : Read). q.at) (sym r.goes)) x

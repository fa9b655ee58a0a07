-- When a reading is over: not before its fall, and at most a microsecond before its ending.
use Rattle.std.proofs.Common.{◌≡◌, ℕ, zero, suc, ◌+◌, ◌-◌, ◌<◌, ◌≤◌, Bool, true, false, not, ◌&&◌, nat_lt, if◌then◌else◌, List, [], ◌++◌, ◌⊎◌, inl, inr, Option, Some, None, Result, Ok, Err, refl, arith, sym}
use Rattle.std.proofs.lemmas.Bool.Decides.{nat_tests}
use Rattle.std.specs.Option.{option_to_list}
use Rattle.line_wave.specs.Line.{Line, was_low, is_fall, is_rise}
use Rattle.line_frames.specs.declared.Ending.{Ending}
use Rattle.line_frames.specs.declared.Ending.TheVariants.{Complete, Short, Silent, BadStart, Long, Open}
use Rattle.line_reading.specs.Reading.After.{Next, Ends}
use Rattle.line_reading.specs.Reading.{next_fall, next_rise, Read, slots_by, read_on, after_by, after_fall_by, after_last, last_ending, bit_sampled_at, last_heard, read_start_by, reading_by, start_by, start_rise_by, start_fall_by, After}
use Rattle.line_reading.specs.Sending.{has_all}
use Rattle.line_reading.proofs.Search.{found_first}
use Rattle.line_reading.proofs.CausesBy.{last_plain, not_over}
use Rattle.line_reading.proofs.AlikeBy.{start_after}
use Rattle.line_reading.specs.declared.times.Windows.{Windows}
use Rattle.line_reading.specs.Windows.{AreWindows, sample_at}
use Rattle.line_reading.specs.Searches.{Found}
use Rattle.line_reading.specs.Known.{IsPlain}
use Rattle.line_reading.specs.Over.{Lately}

-- ---- the ending is at most one after the last microsecond, and not before it

record Near (r : Read) : Type 0 where
  by : r.at ≤ r.until + 1
  late : r.until ≤ r.at

near_end : (ending : Ending) (at : ℕ) → (at ≤ last_heard ending at + 1) × (last_heard ending at ≤ at)
near_end Silent at = (omega arith, omega arith)
near_end Complete at = (omega arith, omega arith)
near_end Short at = (omega arith, omega arith)
near_end BadStart at = (omega arith, omega arith)
near_end Long at = (omega arith, omega arith)
near_end Open at = (omega arith, omega arith)

near_on : (rest : ℕ → Read) (a : After) → ((f : ℕ) → Near (rest f)) → Near (read_on rest a)
near_on rest (Next f) h = h f
near_on rest (Ends ending at) h = let n = near_end ending at in record { by = n.0; late = n.1 }

-- an ending that comes a microsecond after the last one has not all blocks
abbrev pub IsHeard : Read → Type 0
IsHeard r = (r.until ≡ r.at) ⊎ (has_all r.ending ≡ false)

heard_end : (ending : Ending) (at : ℕ) → IsHeard (record { slots = []; ending = ending; at = at; until = last_heard ending at })
heard_end Complete at = inl refl
heard_end Short at = inl refl
heard_end Silent at = inr refl
heard_end BadStart at = inr refl
heard_end Long at = inl refl
heard_end Open at = inl refl

heard_on : (rest : ℕ → Read) (a : After) → ((f : ℕ) → IsHeard (rest f)) → IsHeard (read_on rest a)
heard_on rest (Next f) h = h f
heard_on rest (Ends ending at) h = heard_end ending at

-- ---- it is over soon after the line was low

fall_low : (low : Line) (f : ℕ) → is_fall low f ≡ true → low f ≡ true
fall_low low f h = by_low (low f) (not (was_low low f)) h
  where
    by_low : (a b : Bool) → (a && b) ≡ true → a ≡ true
    by_low true b k = refl
    by_low false b k = cc

module _ (win : Windows) (ok : AreWindows win) where
  near_slots : (low : Line) (left : ℕ) (bits : List Bool) (e : ℕ) → Near (slots_by win low left bits e)
  unfolding slots_by
  near_slots low zero bits e = record { by = omega arith; late = omega arith }
  near_slots low (suc left) bits e =
      let n = near_on (slots_by win low left (bits ++ option_to_list (bit_sampled_at low e))) (after_by win low e (last_ending bits)) (λ f. near_slots low left (bits ++ option_to_list (bit_sampled_at low e)) f) in
      record { by = n.by; late = n.late }

  pub slots_until : (low : Line) (left : ℕ) (bits : List Bool) (e : ℕ) → (slots_by win low left bits e).until ≤ (slots_by win low left bits e).at
  slots_until low left bits e = (near_slots low left bits e).late

  pub slots_heard : (low : Line) (left : ℕ) (bits : List Bool) (e : ℕ) → IsHeard (slots_by win low left bits e)
  unfolding slots_by
  slots_heard low zero bits e = inl refl
  slots_heard low (suc left) bits e =
      heard_on (slots_by win low left (bits ++ option_to_list (bit_sampled_at low e))) (after_by win low e (last_ending bits)) (λ f. slots_heard low left (bits ++ option_to_list (bit_sampled_at low e)) f)

  -- a bad start is reported after the fall, and by 4,701 after it
  bad : (low : Line) (e at : ℕ) → start_by win low e ≡ Err at → (e < at) × (at ≤ e + (win.start_total.most + 1))
  bad low e at h = by_rise (next_rise low e win.start_low.most) refl h
    where
      by_time : (g : ℕ) (b : Bool) → nat_lt g (e + win.start_total.least) ≡ b → e < g → (if b then Err g else Ok g) ≡ Err at → (e < at) × (at ≤ e + (win.start_total.most + 1))
      by_time g true t l k = let s : g ≡ at = cc in let m : g < e + win.start_total.least = grind (arith, nat_tests) in (omega (arith, l, s), omega (arith, m, s))
      by_time g false t l k = cc

      by_fall : (r : ℕ) → e < r → (o : Option ℕ) → next_fall low r (e + win.start_total.most - r) ≡ o → start_fall_by win e o ≡ Err at → (e < at) × (at ≤ e + (win.start_total.most + 1))
      by_fall r l None q k = let s : e + (win.start_total.most + 1) ≡ at = cc in (omega arith, omega arith)
      by_fall r l (Some g) q k = by_time g (nat_lt g (e + win.start_total.least)) refl (omega (arith, l, (found_first (is_fall low) (r + 1) (e + win.start_total.most - r) g q).after)) k

      by_low : (r : ℕ) (b : Bool) → nat_lt r (e + win.start_low.least) ≡ b → e < r → (if b then Err r else start_fall_by win e (next_fall low r (e + win.start_total.most - r))) ≡ Err at → (e < at) × (at ≤ e + (win.start_total.most + 1))
      by_low r true t l k = let s : r ≡ at = cc in let m : r < e + win.start_low.least = grind (arith, nat_tests) in (omega (arith, l, s), omega (arith, m, s))
      by_low r false t l k = by_fall r l (next_fall low r (e + win.start_total.most - r)) refl k

      by_rise : (o : Option ℕ) → next_rise low e win.start_low.most ≡ o → start_rise_by win low e o ≡ Err at → (e < at) × (at ≤ e + (win.start_total.most + 1))
      by_rise None q k = let s : e + (win.start_low.most + 1) ≡ at = cc in (omega arith, omega arith)
      by_rise (Some r) q k = by_low r (nat_lt r (e + win.start_low.least)) refl (omega (arith, (found_first (is_rise low) (e + 1) win.start_low.most r q).after)) k

  near_start : (low : Line) (e : ℕ) (s : Result ℕ ℕ) → start_by win low e ≡ s → Near (read_start_by win low e s)
  near_start low e (Ok f) h = near_slots low 160 [] f
  near_start low e (Err at) h = let b = bad low e at h in record { by = omega (arith, b.1); late = omega arith }

  pub at_by : (low : Line) (e : ℕ) → (reading_by win low e).at ≤ (reading_by win low e).until + 1
  at_by low e = (near_start low e (start_by win low e) refl).by

  pub until_by : (low : Line) (e : ℕ) → (reading_by win low e).until ≤ (reading_by win low e).at
  until_by low e = (near_start low e (start_by win low e) refl).late

  -- ---- it is not over before its fall

  pub begin_by : (low : Line) (e : ℕ) → e ≤ (reading_by win low e).until
  begin_by low e = by_start (start_by win low e) refl
    where
      by_start : (s : Result ℕ ℕ) → start_by win low e ≡ s → e ≤ (read_start_by win low e s).until
      by_start (Ok f) h = omega (arith, start_after win ok low e f h, not_over win ok low 160 [] f)
      by_start (Err at) h = omega (arith, (bad low e at h).0)

  abbrev IsSoon : Line → ℕ → After → Type 0
  IsSoon low e (Next f) = low f ≡ true
  IsSoon low e (Ends ending at) = (e ≤ last_heard ending at) × (last_heard ending at ≤ e + win.bit_total.most)

  soon_after : (low : Line) (e : ℕ) (last : Option Ending) → IsPlain last → IsSoon low e (after_by win low e last)
  soon_after low e None w = by_fall (next_fall low e win.bit_total.most) refl
    where
      by_time : (f : ℕ) → Found (is_fall low) (e + 1) win.bit_total.most f → (b : Bool) → IsSoon low e (if b then Ends Short f else Next f)
      by_time f d true = (omega (arith, d.after), omega (arith, d.within))
      by_time f d false = fall_low low f d.passes

      by_fall : (o : Option ℕ) → next_fall low e win.bit_total.most ≡ o → IsSoon low e (after_fall_by win e o)
      by_fall None h = (omega arith, omega arith)
      by_fall (Some f) h = by_time f (found_first (is_fall low) (e + 1) win.bit_total.most f h) (nat_lt f (e + win.bit_total.least))
  soon_after low e (Some ending) w = by_fall (next_fall low e sample_at) refl
    where
      by_fall : (o : Option ℕ) → next_fall low e sample_at ≡ o → IsSoon low e (after_last e ending o)
      by_fall None h = (omega (arith, w (e + sample_at)), omega (arith, w (e + sample_at)))
      by_fall (Some f) h = let d = found_first (is_fall low) (e + 1) sample_at f h in (omega (arith, d.after), omega (arith, d.within))

  lately_on : (low : Line) (e : ℕ) (rest : ℕ → Read) (a : After) → IsSoon low e a → low e ≡ true → ((f : ℕ) → low f ≡ true → Lately low (rest f).until win.bit_total.most) → Lately low (read_on rest a).until win.bit_total.most
  lately_on low e rest (Next f) s h ih = ih f s
  lately_on low e rest (Ends ending at) s h ih = record { f = e; is_low = h; by = s.0; soon = s.1 }

  lately_slots : (low : Line) (left : ℕ) (bits : List Bool) (e : ℕ) → low e ≡ true → Lately low (slots_by win low left bits e).until win.bit_total.most
  unfolding slots_by
  lately_slots low zero bits e h = record { f = e; is_low = h; by = omega arith; soon = omega arith }
  lately_slots low (suc left) bits e h =
      lately_on low e (slots_by win low left (bits ++ option_to_list (bit_sampled_at low e))) (after_by win low e (last_ending bits)) (soon_after low e (last_ending bits) (last_plain bits)) h
      (λ f k. lately_slots low left (bits ++ option_to_list (bit_sampled_at low e)) f k)

  start_low : (low : Line) (e f : ℕ) → start_by win low e ≡ Ok f → low f ≡ true
  start_low low e f h = by_rise (next_rise low e win.start_low.most) h
    where
      by_time : (g : ℕ) (b : Bool) → low g ≡ true → (if b then Err g else Ok g) ≡ Ok f → low f ≡ true
      by_time g true l k = cc
      by_time g false l k = let s : g ≡ f = cc in rw (sym s) l

      by_fall : (r : ℕ) (o : Option ℕ) → next_fall low r (e + win.start_total.most - r) ≡ o → start_fall_by win e o ≡ Ok f → low f ≡ true
      by_fall r None x k = cc
      by_fall r (Some g) x k = by_time g (nat_lt g (e + win.start_total.least)) (fall_low low g (found_first (is_fall low) (r + 1) (e + win.start_total.most - r) g x).passes) k

      by_low : (r : ℕ) (b : Bool) → (if b then Err r else start_fall_by win e (next_fall low r (e + win.start_total.most - r))) ≡ Ok f → low f ≡ true
      by_low r true k = cc
      by_low r false k = by_fall r (next_fall low r (e + win.start_total.most - r)) refl k

      by_rise : (o : Option ℕ) → start_rise_by win low e o ≡ Ok f → low f ≡ true
      by_rise None k = cc
      by_rise (Some r) k = by_low r (nat_lt r (e + win.start_low.least)) k

  pub lately : (low : Line) (e : ℕ) → low e ≡ true → Lately low (reading_by win low e).until win.start_total.most
  lately low e h = by_start (start_by win low e) refl
    where
      by_start : (s : Result ℕ ℕ) → start_by win low e ≡ s → Lately low (read_start_by win low e s).until win.start_total.most
      by_start (Ok f) k = let l = lately_slots low 160 [] f (start_low low e f k) in record { f = l.f; is_low = l.is_low; by = l.by; soon = omega (arith, l.soon) }
      by_start (Err at) k = let b = bad low e at k in record { f = e; is_low = h; by = omega (arith, b.0); soon = omega arith }

  -- ---- it ends after its fall

  pub ends_after : (low : Line) (e : ℕ) → e < (reading_by win low e).at
  ends_after low e = by_start (start_by win low e) refl
    where
      by_start : (s : Result ℕ ℕ) → start_by win low e ≡ s → e < (read_start_by win low e s).at
      by_start (Ok f) h = omega (arith, start_after win ok low e f h, not_over win ok low 160 [] f, (near_slots low 160 [] f).late)
      by_start (Err at) h = (bad low e at h).0

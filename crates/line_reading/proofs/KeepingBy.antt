-- What is heard of a line microsecond by microsecond is what its readings say.
use Rattle.std.proofs.Common.{◌≡◌, ℕ, zero, suc, ◌+◌, ◌-◌, ◌==◌, ◌<◌, ◌≤◌, Bool, true, false, not, nat_lt, if◌then◌else◌, List, [], ◌∷◌, ◌++◌, length, length-append, append-nil, is_some, ◌⊎◌, inl, inr, Option, Some, None, Result, Ok, Err, refl, arith, ap, ◌∙◌, sym, subst}
use Rattle.std.specs.List.{filter_map}
use Rattle.std.specs.Option.{option_to_list}
use Rattle.std.proofs.lemmas.Bool.Decides.{nat_tests}
use Rattle.line_wave.specs.Line.{Line, was_low, is_fall, is_rise}
use Rattle.line_reading.specs.declared.receiver.ReceiverState.{ReceiverState}
use Rattle.line_reading.specs.declared.receiver.ReceiverState.TheVariants.{Rest, StartLow, StartHigh, Unsampled, Sampled}
use Rattle.line_reading.specs.Reading.{first_in, next_rise, Slot, known_at, known_slot, reading_by, read_start_by, last_ending, bit_sampled_at, start_by}
use Rattle.line_reading.specs.Phase.{Standing, standing_with, standing_from_by, stands_from_by, in_reading, at_rest}
use Rattle.line_reading.specs.Phase as phase
use Rattle.line_reading.specs.Hears.{Hears, hear_in_by, hears_with}
use Rattle.line_reading.specs.Kept.{running_from_by, running_by, runs_on_by, last_fall, kept_in, kept_since, kept_with, kept_with_before, standing_by, StandingsAreKeptBy, reported_since, reported_with_at}
use Rattle.line_reading.specs.Sending.{known_bits, has_all, is_whole}
use Rattle.line_reading.proofs.Search.{first_in_none, first_in_some, found_first}
use Rattle.line_reading.proofs.EndsBy.{begin_by, slots_heard}
use Rattle.line_reading.proofs.AlongBy.{reported_more, known_waiting, ends_later, Waits, quiet_sample}
use Rattle.line_reading.proofs.StoodBy.{step, stands_at, start_none, start_later, low_later, high_later}
use Rattle.line_reading.specs.declared.times.Windows.{Windows}
use Rattle.line_reading.specs.Windows.{AreWindows, sample_at}
use Rattle.line_reading.specs.Places.{ArePastBy, HasBegunBy, AtRestBy, AtStartLowBy, AtStartHighBy, AtSlotBy, StandsInBy, runs_in, KnowsBy}

-- the start bit has risen by t, or not
low_risen : (low : Line) (t begin : ℕ) → begin < t + 1 → ((u : ℕ) → begin < u → u < t + 1 → is_rise low u ≡ false) → is_some (first_in (is_rise low) (begin + 1) (t - begin)) ≡ false
low_risen low t begin l q = ap is_some (first_in_none (is_rise low) (begin + 1) (t - begin) (λ u a b. q u (omega arith) (omega (arith, l))))

-- ---- in a slot

last_of : (fall : ℕ) (xs : List Slot) (s : Slot) → last_fall fall (xs ++ s ∷ []) ≡ s.fall
last_of fall [] s = refl
last_of fall (x ∷ xs) s = last_of x.fall xs s

place_by : ℕ → ℕ → ReceiverState
place_by reported slots = if reported == slots then Sampled else Unsampled

kept_slot : (low : Line) (t begin : ℕ) (xs : List Slot) (s : Slot) → kept_in low t begin (xs ++ s ∷ []) ≡ record {
  place = place_by (length (filter_map (λ (x : Slot). x.bit) (xs ++ s ∷ []))) (length (xs ++ s ∷ []));
  begin = begin;
  fall = s.fall;
  bits = filter_map (λ (x : Slot). x.bit) (xs ++ s ∷ []);
}
unfolding place_by
kept_slot low t begin [] s = refl
kept_slot low t begin (x ∷ xs) s =
    ap (λ f. let h : Hears = record { place = place_by (length (filter_map (λ (x : Slot). x.bit) ((x ∷ xs) ++ s ∷ []))) (length ((x ∷ xs) ++ s ∷ [])); begin = begin; fall = f; bits = filter_map (λ (x : Slot). x.bit) ((x ∷ xs) ++ s ∷ []) } in h) (last_of x.fall xs s)

in_slot : (low : Line) (begin t : ℕ) (xs : List Slot) (s : Slot) → in_reading low begin t (xs ++ s ∷ []) ≡ phase.InSlot (length (xs ++ s ∷ [])) (filter_map (λ x. x.bit) (xs ++ s ∷ []))
in_slot low begin t [] s = refl
in_slot low begin t (x ∷ xs) s = refl

module _ (win : Windows) (ok : AreWindows win) where
  -- ---- the reading that runs

  record Skips (low : Line) (t n from : ℕ) (to : ℕ) : Type 0 where
    left : ℕ
    enough : t + 1 ≤ left + to
    same : running_from_by win low t n from ≡ running_from_by win low t left to

  -- those that are over by t do not run
  skip : (low : Line) (t n from : ℕ) (es : List ℕ) (to : ℕ) → t + 1 ≤ n + from → ArePastBy win low (t + 1) from es to → Skips low t n from to
  unfolding running_from_by
  skip low t n from [] to l h = record { left = n; enough = omega (arith, h); same = ap (running_from_by win low t n) (sym h) }
  skip low t zero from (e ∷ es) to l h = absurd (omega (arith, h.0.after, h.1))
  skip low t (suc n) from (e ∷ es) to l h =
      let s : Skips low t n ((reading_by win low e).until + 1) to = skip low t n ((reading_by win low e).until + 1) es to (omega (arith, h.0.after, begin_by win ok low e)) h.3 in
      record {
        left = s.left;
        enough = s.enough;
        same = ap (λ o. runs_on_by win low t o (running_from_by win low t n)) (first_in_some (is_fall low) from (t + 1 - from) e h.0.after (omega (arith, h.0.after, h.1)) h.0.falls h.0.quiet)
            ∙ ap (λ b. if b then Some e else running_from_by win low t n ((reading_by win low e).until + 1)) (let x = h.2 in let y : nat_lt t (reading_by win low e).at ≡ false = grind (arith, nat_tests) in y)
            ∙ s.same;
      }

  pub none_runs : (low : Line) (t n from : ℕ) → ((u : ℕ) → from ≤ u → u < t + 1 → is_fall low u ≡ false) → running_from_by win low t n from ≡ None
  unfolding running_from_by
  none_runs low t zero from q = refl
  none_runs low t (suc n) from q = ap (λ o. runs_on_by win low t o (running_from_by win low t n)) (first_in_none (is_fall low) from (t + 1 - from) (λ u a b. q u a (omega (arith, a, b))))

  pub one_runs : (low : Line) (t n from begin : ℕ) → t + 1 ≤ n + from → from ≤ begin → begin < t + 1 → is_fall low begin ≡ true → ((u : ℕ) → from ≤ u → u < begin → is_fall low u ≡ false)
      → t < (reading_by win low begin).at → running_from_by win low t n from ≡ Some begin
  unfolding running_from_by
  one_runs low t zero from begin l a b f q late = absurd (omega arith)
  one_runs low t (suc n) from begin l a b f q late =
      ap (λ o. runs_on_by win low t o (running_from_by win low t n)) (first_in_some (is_fall low) from (t + 1 - from) begin a (omega arith) f q)
      ∙ ap (λ c. if c then Some begin else running_from_by win low t n ((reading_by win low begin).until + 1)) (let y : nat_lt t (reading_by win low begin).at ≡ true = grind (arith, nat_tests) in y)

  rest_runs : (low : Line) (t begin fall : ℕ) (bits : List Bool) → AtRestBy win low (t + 1) begin fall bits → running_by win low t ≡ None
  rest_runs low t begin fall bits s = let k = skip low t (t + 1) 0 s.past s.from (omega arith) s.over in k.same ∙ none_runs low t k.left s.from s.quiet

  begun_runs : (low : Line) (t begin : ℕ) → HasBegunBy win low (t + 1) begin → t < (reading_by win low begin).at → running_by win low t ≡ Some begin
  begun_runs low t begin b late =
      let k = skip low t (t + 1) 0 b.past b.from (omega arith) b.over in
      k.same ∙ one_runs low t k.left b.from begin k.enough b.first.after b.before b.first.falls b.first.quiet late

  -- ---- what is known of it

  -- the reading runs at t, with these slots so far
  record RunsSo (low : Line) (t begin : ℕ) (slots : List Slot) : Type 0 where
    runs : running_by win low t ≡ Some begin
    known_by : (known_at (t + 1) (reading_by win low begin)).slots ≡ slots

  low_runs : (low : Line) (t begin fall : ℕ) (bits : List Bool) → AtStartLowBy win low (t + 1) begin fall bits → RunsSo low t begin []
  low_runs low t begin fall bits s =
      let d = low_later win ok low begin t s.quiet (omega (arith, s.early)) (next_rise low begin win.start_low.most) refl in
      record { runs = begun_runs low t begin s.begun (start_later win ok low begin t (start_by win low begin) d.0 d.1); known_by = start_none win ok low begin t (start_by win low begin) d.0 }

  high_runs : (low : Line) (t begin fall : ℕ) (bits : List Bool) → AtStartHighBy win low (t + 1) begin fall bits → RunsSo low t begin []
  high_runs low t begin fall bits s =
      let d = high_later win ok low begin s.rise t s.found s.late s.quiet (omega (arith, s.early)) in
      record { runs = begun_runs low t begin s.begun (start_later win ok low begin t (start_by win low begin) d.0 d.1); known_by = start_none win ok low begin t (start_by win low begin) d.0 }

  slot_runs : (low : Line) (t begin fall : ℕ) (before : List Bool) → (s : AtSlotBy win low (t + 1) begin fall before) → Waits win ok low fall (t + 1) (last_ending before)
      → RunsSo low t begin (s.xs ++ known_slot (t + 1) (record { fall = fall; bit = bit_sampled_at low fall }) ∷ [])
  slot_runs low t begin fall before s w = record {
    runs = begun_runs low t begin s.begun (let x = ends_later win ok low begin s.left s.xs before fall (t + 1) s.reached w in omega (arith, x));
    known_by = known_waiting win ok low begin s.left s.xs before fall (t + 1) s.reached w;
  }

  -- ---- what is kept of it, and where that stands

  record KeepsSo (low : Line) (t : ℕ) (h : Hears) : Type 0 where
    kept : kept_with win low t ≡ h
    stands : standing_with win low t ≡ standing_by h (low t)

  kept_so : (low : Line) (t begin : ℕ) (slots : List Slot) → RunsSo low t begin slots → kept_with win low t ≡ kept_in low t begin slots
  kept_so low t begin slots r = ap (kept_since win low t) r.runs ∙ ap (kept_in low t begin) r.known_by

  -- the standing goes by the reading that runs
  stands_with : Line → ℕ → Option ℕ → Standing
  stands_with low t None = at_rest (low t)
  stands_with low t (Some e) = in_reading low e t (known_at (t + 1) (reading_by win low e)).slots

  standing_runs : (low : Line) (t n from : ℕ) → standing_from_by win low t n from ≡ stands_with low t (running_from_by win low t n from)
  unfolding standing_from_by running_from_by stands_with
  standing_runs low t zero from = refl
  standing_runs low t (suc n) from = by_fall (λ f. standing_runs low t n f) (first_in (is_fall low) from (t + 1 - from))
    where
      by_end : (e : ℕ) → standing_from_by win low t n ((reading_by win low e).until + 1) ≡ stands_with low t (running_from_by win low t n ((reading_by win low e).until + 1)) → (b : Bool)
          → (if b then in_reading low e t (known_at (t + 1) (reading_by win low e)).slots else standing_from_by win low t n ((reading_by win low e).until + 1))
          ≡ stands_with low t (if b then Some e else running_from_by win low t n ((reading_by win low e).until + 1))
      by_end e ih true = refl
      by_end e ih false = ih

      by_fall : ((f : ℕ) → standing_from_by win low t n f ≡ stands_with low t (running_from_by win low t n f)) → (o : Option ℕ)
          → stands_from_by win low t o (standing_from_by win low t n) ≡ stands_with low t (runs_on_by win low t o (running_from_by win low t n))
      by_fall ih None = refl
      by_fall ih (Some e) = by_end e (ih ((reading_by win low e).until + 1)) (nat_lt t (reading_by win low e).at)

  standing_so : (low : Line) (t begin : ℕ) (slots : List Slot) → RunsSo low t begin slots → standing_with win low t ≡ in_reading low begin t slots
  unfolding stands_with
  standing_so low t begin slots r = standing_runs low t (t + 1) 0 ∙ ap (stands_with low t) r.runs ∙ ap (in_reading low begin t) r.known_by

  high_risen : (low : Line) (t begin rise : ℕ) → next_rise low begin win.start_low.most ≡ Some rise → rise < t + 1 → is_some (first_in (is_rise low) (begin + 1) (t - begin)) ≡ true
  high_risen low t begin rise h l =
      let d = found_first (is_rise low) (begin + 1) win.start_low.most rise h in
      ap is_some (first_in_some (is_rise low) (begin + 1) (t - begin) rise d.after (omega (arith, d.after, l)) d.passes d.first)

  slot_keeps : (low : Line) (t begin fall : ℕ) (before bits : List Bool) (place : ReceiverState) → (s : AtSlotBy win low (t + 1) begin fall before) → Waits win ok low fall (t + 1) (last_ending before)
      → (o : Option Bool) → (if nat_lt (fall + sample_at) (t + 1) then bit_sampled_at low fall else None) ≡ o → before ++ option_to_list o ≡ bits
      → place_by (length bits) (length before + 1) ≡ place → standing_by (record { place = place; begin = begin; fall = fall; bits = bits }) (low t) ≡ phase.InSlot (length before + 1) bits
      → KeepsSo low t (record { place = place; begin = begin; fall = fall; bits = bits })
  slot_keeps low t begin fall before bits place s w o is bits_is place_is stands_is = record {
    kept = kept_so low t begin (s.xs ++ one ∷ []) runs ∙ kept_slot low t begin s.xs one
        ∙ ap (λ (bs : List Bool). let h : Hears = record { place = place_by (length bs) (length (s.xs ++ one ∷ [])); begin = begin; fall = fall; bits = bs } in h) reported
        ∙ ap (λ n. let h : Hears = record { place = place_by (length bits) n; begin = begin; fall = fall; bits = bits } in h) count
        ∙ ap (λ p. let h : Hears = record { place = p; begin = begin; fall = fall; bits = bits } in h) place_is;
    stands = standing_so low t begin (s.xs ++ one ∷ []) runs ∙ in_slot low begin t s.xs one
        ∙ ap (λ n. phase.InSlot n (filter_map (λ (x : Slot). x.bit) (s.xs ++ one ∷ []))) count
        ∙ ap (λ (bs : List Bool). phase.InSlot (length before + 1) bs) reported
        ∙ sym stands_is;
  }
    where
      one : Slot
      one = known_slot (t + 1) (record { fall = fall; bit = bit_sampled_at low fall })

      runs : RunsSo low t begin (s.xs ++ known_slot (t + 1) (record { fall = fall; bit = bit_sampled_at low fall }) ∷ [])
      runs = slot_runs low t begin fall before s w

      reported : filter_map (λ (x : Slot). x.bit) (s.xs ++ known_slot (t + 1) (record { fall = fall; bit = bit_sampled_at low fall }) ∷ []) ≡ bits
      reported = reported_more s.xs before (known_slot (t + 1) (record { fall = fall; bit = bit_sampled_at low fall })) s.reached.reported ∙ ap (λ (x : Option Bool). before ++ option_to_list x) is ∙ bits_is

      count : length (s.xs ++ known_slot (t + 1) (record { fall = fall; bit = bit_sampled_at low fall }) ∷ []) ≡ length before + 1
      count = length-append s.xs (known_slot (t + 1) (record { fall = fall; bit = bit_sampled_at low fall }) ∷ []) ∙ (let x = s.count in let y : length s.xs + 1 ≡ length before + 1 = omega (arith, x) in y)

  keeps_so : (low : Line) (t : ℕ) (place : ReceiverState) (begin fall : ℕ) (bits : List Bool) → StandsInBy win low (t + 1) place begin fall bits → KeepsSo low t (record { place = place; begin = begin; fall = fall; bits = bits })
  unfolding StandsInBy stands_with place_by
  keeps_so low t Rest begin fall bits s = record {
    kept = ap (kept_since win low t) (rest_runs low t begin fall bits s) ∙ sym (rw (s.no_begin, s.no_fall, s.no_bits) refl);
    stands = standing_runs low t (t + 1) 0 ∙ ap (stands_with low t) (rest_runs low t begin fall bits s);
  }
  keeps_so low t StartLow begin fall bits s =
      let r = low_runs low t begin fall bits s in
      let risen = low_risen low t begin s.begun.before s.quiet in
      record {
        kept = kept_so low t begin [] r ∙ ap (λ b. let h : Hears = record { place = if b then StartHigh else StartLow; begin = begin; fall = 0; bits = [] } in h) risen ∙ sym (rw (s.no_fall, s.no_bits) refl);
        stands = standing_so low t begin [] r ∙ ap (λ b. if b then phase.StartHigh else phase.StartLow) risen;
      }
  keeps_so low t StartHigh begin fall bits s =
      let r = high_runs low t begin fall bits s in
      let risen = high_risen low t begin s.rise s.found s.after in
      record {
        kept = kept_so low t begin [] r ∙ ap (λ b. let h : Hears = record { place = if b then StartHigh else StartLow; begin = begin; fall = 0; bits = [] } in h) risen ∙ sym (rw (s.no_fall, s.no_bits) refl);
        stands = standing_so low t begin [] r ∙ ap (λ b. if b then phase.StartHigh else phase.StartLow) risen;
      }
  keeps_so low t Unsampled begin fall bits s =
      slot_keeps low t begin fall bits bits Unsampled s.slot (record { after = s.slot.after; quiet = s.slot.quiet; early = omega (arith, s.early); plain = λ ending w. s.early })
      None (let l = s.early in ap (λ b. if b then bit_sampled_at low fall else None) (let x : nat_lt (fall + sample_at) (t + 1) ≡ false = grind (arith, nat_tests) in x)) (append-nil bits)
      (ap (λ b. if b then Sampled else Unsampled) (let x : (length bits == length bits + 1) ≡ false = grind (arith, nat_tests) in x)) refl
  keeps_so low t Sampled begin fall bits s =
      let more : length bits ≡ length s.before + 1 = ap (λ (bs : List Bool). length bs) s.reported ∙ length-append s.before (not (low (fall + sample_at)) ∷ []) in
      slot_keeps low t begin fall s.before bits Sampled s.slot (record { after = s.slot.after; quiet = s.slot.quiet; early = s.early; plain = λ ending w. let x : None ≡ Some ending = sym s.plain ∙ w in cc })
      (Some (not (low (fall + sample_at)))) (let l = s.past in ap (λ b. if b then bit_sampled_at low fall else None) (let x : nat_lt (fall + sample_at) (t + 1) ≡ true = grind (arith, nat_tests) in x)
      ∙ quiet_sample low fall (λ u a b. s.slot.quiet u a (omega (arith, l)))) (sym s.reported)
      (ap (λ b. if b then Sampled else Unsampled) (let x : (length bits == length s.before + 1) ≡ true = grind (arith, nat_tests) in x)) (ap (λ n. phase.InSlot n bits) more)

  -- ---- the line's readings and what is heard of it

  heard_now : (low : Line) (t : ℕ) → StandsInBy win low (t + 1) (hears_with win low (suc t)).place (hears_with win low (suc t)).begin (hears_with win low (suc t)).fall (hears_with win low (suc t)).bits
  heard_now low t = subst (λ m. StandsInBy win low m (hears_with win low (suc t)).place (hears_with win low (suc t)).begin (hears_with win low (suc t)).fall (hears_with win low (suc t)).bits) (let x : suc t ≡ t + 1 = omega arith in x) (stands_at win ok low (suc t))

  heard_keeps : (low : Line) (t : ℕ) → KeepsSo low t (hears_with win low (suc t))
  heard_keeps low t = keeps_so low t (hears_with win low (suc t)).place (hears_with win low (suc t)).begin (hears_with win low (suc t)).fall (hears_with win low (suc t)).bits (heard_now low t)

  pub kept_heard : (low : Line) (t : ℕ) → kept_with win low t ≡ hears_with win low (suc t)
  kept_heard low t = (heard_keeps low t).kept

  pub before_heard : (low : Line) (n : ℕ) → kept_with_before win low n ≡ hears_with win low n
  unfolding hears_with
  before_heard low zero = refl
  before_heard low (suc t) = kept_heard low t

  pub standings_are_kept : (StandingsAreKeptBy win)
  standings_are_kept low t = let k = heard_keeps low t in ap (λ h. standing_by h (low t)) k.kept ∙ sym k.stands

  pub runs_so : (low : Line) (t : ℕ) (place : ReceiverState) (begin fall : ℕ) (bits : List Bool) → StandsInBy win low (t + 1) place begin fall bits → running_by win low t ≡ runs_in place begin
  unfolding StandsInBy
  runs_so low t Rest begin fall bits s = rest_runs low t begin fall bits s
  runs_so low t StartLow begin fall bits s = (low_runs low t begin fall bits s).runs
  runs_so low t StartHigh begin fall bits s = (high_runs low t begin fall bits s).runs
  runs_so low t Unsampled begin fall bits s =
      (slot_runs low t begin fall bits s.slot (record { after = s.slot.after; quiet = s.slot.quiet; early = omega (arith, s.early); plain = λ ending w. s.early })).runs
  runs_so low t Sampled begin fall bits s =
      (slot_runs low t begin fall s.before s.slot (record { after = s.slot.after; quiet = s.slot.quiet; early = s.early; plain = λ ending w. let x : None ≡ Some ending = sym s.plain ∙ w in cc })).runs

  pub reported_heard : (low : Line) (n : ℕ) → reported_with_at win low n ≡ (hear_in_by win n (was_low low n) (low n) (hears_with win low n)).reported
  unfolding hears_with
  reported_heard low zero = refl
  reported_heard low (suc t) =
      ap (reported_since win low (suc t)) (runs_so low t (hears_with win low (suc t)).place (hears_with win low (suc t)).begin (hears_with win low (suc t)).fall (hears_with win low (suc t)).bits (heard_now low t))
      ∙ sym (step win ok low (suc t) (hears_with win low (suc t)).place (hears_with win low (suc t)).begin (hears_with win low (suc t)).fall (hears_with win low (suc t)).bits (stands_at win ok low (suc t))).reported

  -- ---- what is known of a reading that runs

  -- a reading that is over a microsecond before its ending has not all its blocks
  ends_heard : (low : Line) (begin : ℕ) → ((reading_by win low begin).until ≡ (reading_by win low begin).at) ⊎ (has_all (reading_by win low begin).ending ≡ false)
  ends_heard low begin = by_start (start_by win low begin)
    where
      by_start : (s : Result ℕ ℕ) → ((read_start_by win low begin s).until ≡ (read_start_by win low begin s).at) ⊎ (has_all (read_start_by win low begin s).ending ≡ false)
      by_start (Ok f) = slots_heard win ok low 160 [] f
      by_start (Err at) = inr refl

  not_all : (low : Line) (begin n : ℕ) → n ≤ (reading_by win low begin).at → is_whole (known_at n (reading_by win low begin)).ended ≡ false
  not_all low begin n l = by_time (nat_lt (reading_by win low begin).until n) refl (ends_heard low begin)
    where
      by_time : (b : Bool) → nat_lt (reading_by win low begin).until n ≡ b → ((reading_by win low begin).until ≡ (reading_by win low begin).at) ⊎ (has_all (reading_by win low begin).ending ≡ false)
          → is_whole (if b then Some (record { ending = (reading_by win low begin).ending; at = (reading_by win low begin).at; until = (reading_by win low begin).until }) else None) ≡ false
      by_time false h e = refl
      by_time true h (inr e) = e
      by_time true h (inl e) = let x : (reading_by win low begin).until < n = grind (arith, nat_tests) in absurd (omega (arith, e, x, l))

  knows_running : (low : Line) (n begin : ℕ) (bits : List Bool) → (n ≤ (reading_by win low begin).at) → known_bits (known_at n (reading_by win low begin)) ≡ bits → KnowsBy win low n begin bits false false
  knows_running low n begin bits l e = record { bits_are = e; whole_is = not_all low begin n l; over_is = let x : nat_lt (reading_by win low begin).at n ≡ false = grind (arith, nat_tests) in x }

  start_knows : (low : Line) (n begin : ℕ) (bits : List Bool) → bits ≡ [] → ((f : ℕ) → start_by win low begin ≡ Ok f → n < f + 1) × ((at : ℕ) → start_by win low begin ≡ Err at → n < at + 1) → 1 ≤ n → KnowsBy win low n begin bits false false
  start_knows low n begin bits none d l =
      knows_running low n begin bits
      (let x = start_later win ok low begin (n - 1) (start_by win low begin) (λ f e. let y = d.0 f e in omega (arith, y, l)) (λ at e. let y = d.1 at e in omega (arith, y, l)) in omega (arith, x))
      (ap (λ m. known_bits (known_at m (reading_by win low begin))) (let x : n ≡ n - 1 + 1 = omega (arith, l) in x)
      ∙ ap (λ (ss : List Slot). filter_map (λ (x : Slot). x.bit) ss) (start_none win ok low begin (n - 1) (start_by win low begin) (λ f e. let y = d.0 f e in omega (arith, y, l))) ∙ sym none)

  slot_knows : (low : Line) (n begin fall : ℕ) (before bits : List Bool) → (s : AtSlotBy win low n begin fall before) → Waits win ok low fall n (last_ending before)
      → before ++ option_to_list (if nat_lt (fall + sample_at) n then bit_sampled_at low fall else None) ≡ bits → KnowsBy win low n begin bits false false
  slot_knows low n begin fall before bits s w e =
      knows_running low n begin bits (ends_later win ok low begin s.left s.xs before fall n s.reached w)
      (ap (λ (ss : List Slot). filter_map (λ (x : Slot). x.bit) ss) (known_waiting win ok low begin s.left s.xs before fall n s.reached w)
      ∙ reported_more s.xs before (known_slot n (record { fall = fall; bit = bit_sampled_at low fall })) s.reached.reported ∙ e)

  pub running_knows : (low : Line) (n : ℕ) (place : ReceiverState) (begin fall : ℕ) (bits : List Bool) (b : ℕ) → StandsInBy win low n place begin fall bits → runs_in place begin ≡ Some b → KnowsBy win low n begin bits false false
  unfolding StandsInBy
  running_knows low n Rest begin fall bits b s e = cc
  running_knows low n StartLow begin fall bits b s e =
      let one : 1 ≤ n = omega (arith, s.begun.before) in
      let d = low_later win ok low begin (n - 1) (λ u a c. s.quiet u a (omega (arith, c, one))) (omega (arith, s.early)) (next_rise low begin win.start_low.most) refl in
      start_knows low n begin bits s.no_bits (λ f k. let y = d.0 f k in omega (arith, y), λ at k. let y = d.1 at k in omega (arith, y)) one
  running_knows low n StartHigh begin fall bits b s e =
      let one : 1 ≤ n = omega (arith, s.begun.before) in
      let d = high_later win ok low begin s.rise (n - 1) s.found s.late (λ u a c. s.quiet u a (omega (arith, c, one))) (omega (arith, s.early)) in
      start_knows low n begin bits s.no_bits (λ f k. let y = d.0 f k in omega (arith, y), λ at k. let y = d.1 at k in omega (arith, y)) one
  running_knows low n Unsampled begin fall bits b s e =
      slot_knows low n begin fall bits bits s.slot (record { after = s.slot.after; quiet = s.slot.quiet; early = omega (arith, s.early); plain = λ ending w. s.early })
      (ap (λ c. bits ++ option_to_list (if c then bit_sampled_at low fall else None)) (let l = s.early in let x : nat_lt (fall + sample_at) n ≡ false = grind (arith, nat_tests) in x) ∙ append-nil bits)
  running_knows low n Sampled begin fall bits b s e =
      slot_knows low n begin fall s.before bits s.slot (record { after = s.slot.after; quiet = s.slot.quiet; early = s.early; plain = λ ending w. let x : None ≡ Some ending = sym s.plain ∙ w in cc })
      (ap (λ c. s.before ++ option_to_list (if c then bit_sampled_at low fall else None)) (let l = s.past in let x : nat_lt (fall + sample_at) n ≡ true = grind (arith, nat_tests) in x)
      ∙ ap (λ (o : Option Bool). s.before ++ option_to_list o) (quiet_sample low fall (λ u a c. s.slot.quiet u a (omega (arith, s.past)))) ∙ sym s.reported)

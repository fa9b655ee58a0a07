-- Where one who hears a line microsecond by microsecond stands.
use Rattle.std.proofs.Common.{◌≡◌, ℕ, zero, suc, ◌+◌, ◌-◌, ◌%◌, ◌==◌, ◌<◌, ◌≤◌, Bool, true, false, not, ◌&&◌, nat_lt, if◌then◌else◌, List, [], ◌∷◌, ◌++◌, length, length-append, append-nil, slice_index_or, min, inl, inr, Option, Some, None, Result, Ok, Err, refl, arith, ap, ◌∙◌, sym, subst}
use Rattle.std.specs.List.{filter_map}
use Rattle.std.specs.Option.{option_to_list}
use Rattle.std.proofs.lemmas.Bool.{cases_lt}
use Rattle.std.proofs.lemmas.Bool.Decides.{nat_tests}
use Rattle.line_wave.specs.Line.{Line, was_low, is_fall, is_rise}
use Rattle.line_frames.specs.declared.Ending.{Ending}
use Rattle.line_frames.specs.declared.Ending.TheVariants.{Complete, Short, Silent, BadStart, Long, Open}
use Rattle.line_reading.specs.Reading.After.{Next, Ends}
use Rattle.line_reading.specs.declared.receiver.ReceiverState.{ReceiverState}
use Rattle.line_reading.specs.declared.receiver.ReceiverState.TheVariants.{Rest, StartLow, StartHigh, Unsampled, Sampled}
use Rattle.line_reading.specs.declared.receiver.Told.{Told}
use Rattle.line_reading.specs.declared.receiver.Told.TheVariants.{Nothing, Bit, Last, Ended}
use Rattle.line_reading.specs.Reading.{next_fall, next_rise, Read, Slot, End, known_at, known_slot, reading_by, read_start_by, after_by, after_fall_by, after_last, last_ending, last_heard, bit_sampled_at, start_by, start_rise_by, start_fall_by, After}
use Rattle.line_reading.specs.Readings.{IsFirstFall}
use Rattle.line_reading.specs.Hears.{Hears, reported_so, rest, starts, hear_start_low_by, hear_start_high_by, hear_unsampled, hear_sampled_by, sample_as, hear_in_by, hears_with}
use Rattle.line_reading.specs.Sending.{known_bits, has_all, is_whole}
use Rattle.line_reading.specs.Kept.{Sample, sample_of, sample_in, reported_with, reported_since}
use Rattle.line_reading.proofs.Search.{first_in_none, first_in_some, found_first}
use Rattle.line_reading.proofs.CausesBy.{start_risen, late_read, last_plain, not_over}
use Rattle.line_reading.proofs.EndsBy.{slots_until}
use Rattle.line_reading.proofs.AlongBy.{reached_start, reach_next, Waits, quiet_sample, next_here, next_none, ends_so, last_full, reported_more, known_waiting, known_ending, ends_later}
use Rattle.line_reading.specs.declared.times.Windows.{Windows}
use Rattle.line_reading.specs.Windows.{AreWindows, sample_at}
use Rattle.line_reading.specs.Known.{IsPlain, nothing}
use Rattle.line_wave.proofs.Waves.{was_now}
use Rattle.line_reading.specs.Places.{AreOver, Reached, ArePastBy, HasBegunBy, AtStartLowBy, AtStartHighBy, AtSlotBy, StandsInBy, KnowsBy, StepsBy, AtUnsampledBy, AtSampledBy}

fall_is_low : (low : Line) (n : ℕ) → is_fall low n ≡ true → low n ≡ true
fall_is_low low n f = by_low (low n) (not (was_low low n)) f
  where
    by_low : (a b : Bool) → (a && b) ≡ true → a ≡ true
    by_low true b k = refl
    by_low false b k = cc

-- ---- what a microsecond told

same_test : (a b : ℕ) → a ≡ b → (a == b) ≡ true
same_test a b e = grind (arith, nat_tests)

not_now : (e n k : ℕ) (o : Option Bool) → (e + sample_at == n) ≡ false → (if e + sample_at == n then sample_of k o else None) ≡ None
not_now e n k o h = ap (λ b. if b then sample_of k o else None) h

no_sample : (b : Bool) (k : ℕ) (o : Option Bool) → o ≡ None → (if b then sample_of k o else None) ≡ None
no_sample true k o h = ap (sample_of k) h
no_sample false k o h = refl

quiet_more : (low : Line) (from n : ℕ) → ((u : ℕ) → from < u → u < n → is_fall low u ≡ false) → is_fall low n ≡ false → (u : ℕ) → from < u → u < n + 1 → is_fall low u ≡ false
quiet_more low from n q e u l m = elim (cases_lt u n) [ inl lt ↦ q u l lt | inr ge ↦ let same : u ≡ n = omega arith in rw same e ]

-- the ending of a last slot has all blocks, and that slot is an acknowledge slot
last_has : (bits : List Bool) (ending : Ending) → last_ending bits ≡ Some ending → (has_all ending ≡ true) × (length bits % 10 ≡ 9)
last_has bits ending h = by_tests (length bits % 10 == 9) refl (slice_index_or bits (length bits - 1) false) (length bits == 159) h
  where
    by_tests : (a : Bool) → (length bits % 10 == 9) ≡ a → (b c : Bool) → (if a then (if b then Some Complete else if c then Some Long else None) else None) ≡ Some ending → (has_all ending ≡ true) × (length bits % 10 ≡ 9)
    by_tests true t true c e = let x : Complete ≡ ending = cc in (ap has_all (sym x), grind (arith, nat_tests))
    by_tests true t false true e = let x : Long ≡ ending = cc in (ap has_all (sym x), grind (arith, nat_tests))
    by_tests true t false false e = cc
    by_tests false t b c e = cc

module _ (win : Windows) (ok : AreWindows win) where
  -- ---- the readings that are over before n

  pub past_later : (low : Line) (n from : ℕ) (es : List ℕ) (to : ℕ) → ArePastBy win low n from es to → ArePastBy win low (n + 1) from es to
  past_later low n from [] to h = h
  past_later low n from (e ∷ es) to h = (h.0, omega (arith, h.1), omega (arith, h.2), past_later low n ((reading_by win low e).until + 1) es to h.3)

  pub past_more : (low : Line) (n from : ℕ) (es : List ℕ) (to e : ℕ) → ArePastBy win low n from es to → IsFirstFall low to e → e < n → (reading_by win low e).at < n → ArePastBy win low n from (es ++ e ∷ []) ((reading_by win low e).until + 1)
  past_more low n from [] to e h f l m = (subst (λ x. IsFirstFall low x e) h f, l, m, refl)
  past_more low n from (x ∷ es) to e h f l m = (h.0, h.1, h.2, past_more low n ((reading_by win low x).until + 1) es to e h.3 f l m)

  begun_later : (low : Line) (n begin : ℕ) → HasBegunBy win low n begin → HasBegunBy win low (n + 1) begin
  begun_later low n begin b = record { past = b.past; from = b.from; over = past_later low n 0 b.past b.from b.over; first = b.first; before = omega (arith, b.before) }

  -- ---- at rest

  pub stands_first : (low : Line) → StandsInBy win low 0 Rest 0 0 []
  unfolding StandsInBy
  stands_first low = record { past = []; from = 0; over = refl; by = omega arith; quiet = λ u a b. absurd (omega arith); no_begin = refl; no_fall = refl; no_bits = refl }

  -- where no reading runs before microsecond n
  starts_so : (low : Line) (n : ℕ) (past : List ℕ) (from : ℕ) → ArePastBy win low (n + 1) 0 past from → from ≤ n → ((u : ℕ) → from ≤ u → u < n → is_fall low u ≡ false)
      → StandsInBy win low (n + 1) (starts n (is_fall low n)).place (starts n (is_fall low n)).begin (starts n (is_fall low n)).fall (starts n (is_fall low n)).bits
  unfolding StandsInBy
  starts_so low n past from over by quiet = by_fall (is_fall low n) refl
    where
      by_fall : (b : Bool) → is_fall low n ≡ b → StandsInBy win low (n + 1) (starts n b).place (starts n b).begin (starts n b).fall (starts n b).bits
      by_fall true f = record {
        begun = record { past = past; from = from; over = over; first = record { after = by; falls = f; quiet = quiet }; before = omega arith };
        no_fall = refl;
        no_bits = refl;
        quiet = λ u a b. absurd (omega arith);
        early = omega arith;
        still = was_now low n ∙ fall_is_low low n f;
      }
      by_fall false f = record {
        past = past;
        from = from;
        over = over;
        by = omega arith;
        quiet = λ u a b. elim (cases_lt u n) [ inl lt ↦ quiet u a lt | inr ge ↦ let same : u ≡ n = omega arith in rw same f ];
        no_begin = refl;
        no_fall = refl;
        no_bits = refl;
      }

  -- where the reading ends with microsecond n
  rests_so : (low : Line) (n begin until : ℕ) → HasBegunBy win low n begin → (reading_by win low begin).at ≡ n → (reading_by win low begin).until ≡ n → StandsInBy win low (n + 1) Rest 0 0 []
  unfolding StandsInBy
  rests_so low n begin until b at end = record {
    past = b.past ++ begin ∷ [];
    from = (reading_by win low begin).until + 1;
    over = past_more low (n + 1) 0 b.past b.from begin (past_later low n 0 b.past b.from b.over) b.first (omega (arith, b.before)) (omega (arith, at));
    by = omega (arith, end);
    quiet = λ u a b. absurd (omega (arith, end, a, b));
    no_begin = refl;
    no_fall = refl;
    no_bits = refl;
  }

  -- where it ends with microsecond n, which does not belong to it
  late_rest : (low : Line) (n begin : ℕ) → HasBegunBy win low n begin → (reading_by win low begin).at ≡ n → (reading_by win low begin).until + 1 ≡ n
      → StandsInBy win low (n + 1) (starts n (is_fall low n)).place (starts n (is_fall low n)).begin (starts n (is_fall low n)).fall (starts n (is_fall low n)).bits
  late_rest low n begin b at end =
      starts_so low n (b.past ++ begin ∷ []) ((reading_by win low begin).until + 1)
      (past_more low (n + 1) 0 b.past b.from begin (past_later low n 0 b.past b.from b.over) b.first (omega (arith, b.before)) (omega (arith, at)))
      (omega (arith, end)) (λ u a c. absurd (omega (arith, end, a, c)))

  -- a reading that ends with n, in no slot that is sampled then
  ended_reported : (low : Line) (n begin : ℕ) (ending : Ending) → (reading_by win low begin).at ≡ n → (reading_by win low begin).ending ≡ ending → sample_in n 1 (known_at (n + 1) (reading_by win low begin)).slots ≡ None
      → Ended ending ≡ reported_since win low n (Some begin)
  ended_reported low n begin ending at kind none =
      sym (ap (λ s. reported_with s ((reading_by win low begin).at == n) (reading_by win low begin).ending) none
      ∙ ap (λ b. reported_with None b (reading_by win low begin).ending) (let x : ((reading_by win low begin).at == n) ≡ true = grind (arith, nat_tests) in x)
      ∙ ap (λ e. reported_with None true e) kind)

  -- a reading that goes on after n
  going_reported : (low : Line) (n begin : ℕ) (s : Option Sample) (reported : Told) → n < (reading_by win low begin).at → sample_in n 1 (known_at (n + 1) (reading_by win low begin)).slots ≡ s
      → reported ≡ reported_with s false (reading_by win low begin).ending → reported ≡ reported_since win low n (Some begin)
  going_reported low n begin s reported late is reported_is =
      reported_is ∙ sym (ap (λ x. reported_with x ((reading_by win low begin).at == n) (reading_by win low begin).ending) is
      ∙ ap (λ b. reported_with s b (reading_by win low begin).ending) (let x : ((reading_by win low begin).at == n) ≡ false = grind (arith, nat_tests) in x))

  -- slots that are over are not sampled at n
  sample_past : (e n k : ℕ) (xs ys : List Slot) → AreOver win e xs → e ≤ n → sample_in n k (xs ++ ys) ≡ sample_in n (k + length xs) ys
  sample_past e n k [] ys o l = ap (λ i. sample_in n i ys) (omega arith)
  sample_past e n k (x ∷ xs) ys o l =
      ap (λ b. if b then sample_of k x.bit else sample_in n (k + 1) (xs ++ ys)) (let y = o.0 in let z : (x.fall + sample_at == n) ≡ false = grind (arith, nat_tests) in z)
      ∙ sample_past e n (k + 1) xs ys o.1 l ∙ ap (λ i. sample_in n i ys) (let w : k + 1 + length xs ≡ k + length (x ∷ xs) = omega arith in w)

  -- a slot is sampled at n where that is 1,050 after its fall
  sample_slot : (low : Line) (n e : ℕ) (xs : List Slot) → AreOver win e xs → e ≤ n
      → sample_in n 1 (xs ++ known_slot (n + 1) (record { fall = e; bit = bit_sampled_at low e }) ∷ []) ≡ (if e + sample_at == n then sample_of (1 + length xs) (bit_sampled_at low e) else None)
  sample_slot low n e xs o l = sample_past e n 1 xs (known_slot (n + 1) (record { fall = e; bit = bit_sampled_at low e }) ∷ []) o l ∙ by_time (e + sample_at == n) refl
    where
      by_time : (b : Bool) → (e + sample_at == n) ≡ b
          → (if b then sample_of (1 + length xs) (if nat_lt (e + sample_at) (n + 1) then bit_sampled_at low e else None) else None) ≡ (if b then sample_of (1 + length xs) (bit_sampled_at low e) else None)
      by_time true h = ap (λ c. sample_of (1 + length xs) (if c then bit_sampled_at low e else None)) (let x : nat_lt (e + sample_at) (n + 1) ≡ true = grind (arith, nat_tests) in x)
      by_time false h = refl

  -- ---- the start bit

  pub start_none : (low : Line) (begin n : ℕ) (s : Result ℕ ℕ) → ((f : ℕ) → s ≡ Ok f → n < f) → (known_at (n + 1) (read_start_by win low begin s)).slots ≡ []
  unfolding nothing
  start_none low begin n (Err at) h = refl
  start_none low begin n (Ok f) h = ap (λ k. k.slots) (late_read win ok (n + 1) low 160 [] f (let x = h f refl in omega (arith, x)))

  pub start_later : (low : Line) (begin n : ℕ) (s : Result ℕ ℕ) → ((f : ℕ) → s ≡ Ok f → n < f) → ((at : ℕ) → s ≡ Err at → n < at) → n < (read_start_by win low begin s).at
  start_later low begin n (Err at) h k = k at refl
  start_later low begin n (Ok f) h k = let x = h f refl in omega (arith, x, not_over win ok low 160 [] f, slots_until win ok low 160 [] f)

  -- a bad start that is reported with n
  bad_start : (low : Line) (n begin until : ℕ) → start_by win low begin ≡ Err n → min n (begin + win.start_total.most) ≡ until
      → ((reading_by win low begin).at ≡ n) × ((reading_by win low begin).until ≡ until) × (Ended BadStart ≡ reported_since win low n (Some begin)) × KnowsBy win low (n + 1) begin [] false true
  bad_start low n begin until h m = (
    ap (λ (r : Read). r.at) reads,
    ap (λ (r : Read). r.until) reads ∙ m,
    ended_reported low n begin BadStart (ap (λ (r : Read). r.at) reads) (ap (λ (r : Read). r.ending) reads) (ap (λ (r : Read). sample_in n 1 (known_at (n + 1) r).slots) reads),
    record {
      bits_are = ap (λ (r : Read). known_bits (known_at (n + 1) r)) reads;
      whole_is = ap (λ (r : Read). is_whole (known_at (n + 1) r).ended) reads ∙ none_whole (nat_lt (min n (begin + win.start_total.most)) (n + 1));
      over_is = ap (λ (r : Read). nat_lt r.at (n + 1)) reads ∙ (let x : nat_lt n (n + 1) ≡ true = grind (arith, nat_tests) in x);
    },
  )
    where
      reads : reading_by win low begin ≡ read_start_by win low begin (Err n)
      reads = ap (read_start_by win low begin) h

      none_whole : (b : Bool) → (let o : Option End = if b then Some (record { ending = BadStart; at = n; until = min n (begin + win.start_total.most) }) else None in is_whole o) ≡ false
      none_whole true = refl
      none_whole false = refl

  -- what the start bit leads to, while it has not risen
  pub low_later : (low : Line) (begin n : ℕ) → ((u : ℕ) → begin < u → u < n + 1 → is_rise low u ≡ false) → n ≤ begin + win.start_low.most → (o : Option ℕ) → next_rise low begin win.start_low.most ≡ o
      → ((f : ℕ) → start_rise_by win low begin o ≡ Ok f → n < f) × ((at : ℕ) → start_rise_by win low begin o ≡ Err at → n < at)
  low_later low begin n q l None h = (λ f e. cc, λ at e. let x : begin + (win.start_low.most + 1) ≡ at = cc in omega (arith, x))
  low_later low begin n q l (Some r) h = by_soon (nat_lt r (begin + win.start_low.least)) refl
    where
      late : n < r
      late = let d = found_first (is_rise low) (begin + 1) win.start_low.most r h in elim (cases_lt n r) [
        | inl lt ↦ lt
        | inr ge ↦ (let x : true ≡ false = sym d.passes ∙ q r (omega (arith, d.after)) (omega (arith, ge)) in cc)
      ]

      by_fall : (o : Option ℕ) → next_fall low r (begin + win.start_total.most - r) ≡ o → ((f : ℕ) → start_fall_by win begin o ≡ Ok f → n < f) × ((at : ℕ) → start_fall_by win begin o ≡ Err at → n < at)
      by_fall None k = (λ f e. cc, λ at e. let x : begin + (win.start_total.most + 1) ≡ at = cc in omega (arith, x))
      by_fall (Some f) k = by_time (nat_lt f (begin + win.start_total.least))
        where
          past : n < f
          past = let d = found_first (is_fall low) (r + 1) (begin + win.start_total.most - r) f k in omega (arith, d.after, late)

          by_time : (b : Bool) → ((g : ℕ) → (if b then Err f else Ok f) ≡ Ok g → n < g) × ((at : ℕ) → (if b then Err f else Ok f) ≡ Err at → n < at)
          by_time true = (λ g e. cc, λ at e. let x : f ≡ at = cc in omega (arith, x, past))
          by_time false = (λ g e. let x : f ≡ g = cc in omega (arith, x, past), λ at e. cc)

      by_soon : (b : Bool) → nat_lt r (begin + win.start_low.least) ≡ b
          → ((f : ℕ) → (if b then Err r else start_fall_by win begin (next_fall low r (begin + win.start_total.most - r))) ≡ Ok f → n < f)
          × ((at : ℕ) → (if b then Err r else start_fall_by win begin (next_fall low r (begin + win.start_total.most - r))) ≡ Err at → n < at)
      by_soon true e = (λ f k. cc, λ at k. let x : r ≡ at = cc in omega (arith, x, late))
      by_soon false e = by_fall (next_fall low r (begin + win.start_total.most - r)) refl

  -- after the rise
  pub high_later : (low : Line) (begin rise n : ℕ) → next_rise low begin win.start_low.most ≡ Some rise → begin + win.start_low.least ≤ rise → ((u : ℕ) → rise < u → u < n + 1 → is_fall low u ≡ false) → n ≤ begin + win.start_total.most
      → ((f : ℕ) → start_by win low begin ≡ Ok f → n < f) × ((at : ℕ) → start_by win low begin ≡ Err at → n < at)
  high_later low begin rise n found late q l =
      let d = by_fall (next_fall low rise (begin + win.start_total.most - rise)) refl in
      (λ f e. d.0 f (sym start ∙ e), λ at e. d.1 at (sym start ∙ e))
    where
      start : start_by win low begin ≡ start_fall_by win begin (next_fall low rise (begin + win.start_total.most - rise))
      start = start_risen win ok low begin rise found late

      by_fall : (o : Option ℕ) → next_fall low rise (begin + win.start_total.most - rise) ≡ o → ((f : ℕ) → start_fall_by win begin o ≡ Ok f → n < f) × ((at : ℕ) → start_fall_by win begin o ≡ Err at → n < at)
      by_fall None k = (λ f e. cc, λ at e. let x : begin + (win.start_total.most + 1) ≡ at = cc in omega (arith, x))
      by_fall (Some f) k = by_time (nat_lt f (begin + win.start_total.least))
        where
          past : n < f
          past = let d = found_first (is_fall low) (rise + 1) (begin + win.start_total.most - rise) f k in elim (cases_lt n f) [
            | inl lt ↦ lt
            | inr ge ↦ (let x : true ≡ false = sym d.passes ∙ q f (omega (arith, d.after)) (omega (arith, ge)) in cc)
          ]

          by_time : (b : Bool) → ((g : ℕ) → (if b then Err f else Ok f) ≡ Ok g → n < g) × ((at : ℕ) → (if b then Err f else Ok f) ≡ Err at → n < at)
          by_time true = (λ g e. cc, λ at e. let x : f ≡ at = cc in omega (arith, x, past))
          by_time false = (λ g e. let x : f ≡ g = cc in omega (arith, x, past), λ at e. cc)

  start_going : (low : Line) (n begin : ℕ) → ((f : ℕ) → start_by win low begin ≡ Ok f → n < f) × ((at : ℕ) → start_by win low begin ≡ Err at → n < at) → Nothing ≡ reported_since win low n (Some begin)
  start_going low n begin d =
      going_reported low n begin None Nothing (start_later low begin n (start_by win low begin) d.0 d.1) (ap (sample_in n 1) (start_none low begin n (start_by win low begin) d.0)) refl

  bad_end : (low : Line) (n begin : ℕ) (bits : List Bool) → bits ≡ [] → KnowsBy win low (n + 1) begin [] false true → KnowsBy win low (n + 1) begin bits false true
  bad_end low n begin bits e k = subst (λ (bs : List Bool). KnowsBy win low (n + 1) begin bs false true) (sym e) k

  -- in the start bit, before its rise
  low_step : (low : Line) (n begin fall : ℕ) (bits : List Bool) → AtStartLowBy win low n begin fall bits
      → StepsBy win low n StartLow begin bits (hear_start_low_by win n (is_fall low n) (is_rise low n) (record { place = StartLow; begin = begin; fall = fall; bits = bits }))
  unfolding StandsInBy
  low_step low n begin fall bits s = by_late (nat_lt (begin + win.start_low.most) n) refl
    where
      h : Hears
      h = record { place = StartLow; begin = begin; fall = fall; bits = bits }

      first : begin < n
      first = s.begun.before

      risen : is_rise low n ≡ true → n ≤ begin + win.start_low.most → next_rise low begin win.start_low.most ≡ Some n
      risen e l = first_in_some (is_rise low) (begin + 1) win.start_low.most n (omega (arith, first)) (omega arith) e (λ u a b. s.quiet u (omega arith) b)

      quiet_to : is_rise low n ≡ false → (u : ℕ) → begin < u → u < n + 1 → is_rise low u ≡ false
      quiet_to e u l m = elim (cases_lt u n) [ inl lt ↦ s.quiet u l lt | inr ge ↦ let same : u ≡ n = omega arith in rw same e ]

      by_soon : n ≤ begin + win.start_low.most → is_rise low n ≡ true → (b : Bool) → nat_lt n (begin + win.start_low.least) ≡ b
          → StepsBy win low n StartLow begin bits (if b then reported_so rest (Ended BadStart) else reported_so (record { place = StartHigh; begin = begin; fall = fall; bits = bits }) Nothing)
      by_soon l e true k =
          let d = bad_start low n begin n (ap (start_rise_by win low begin) (risen e l) ∙ ap (λ b. if b then Err n else start_fall_by win begin (next_fall low n (begin + win.start_total.most - n))) k) (omega arith) in
          record { stands = rests_so low n begin n s.begun d.0 d.1; reported = d.2; ends = bad_end low n begin bits s.no_bits d.3 }
      by_soon l e false k =
          let late : begin + win.start_low.least ≤ n = grind (arith, nat_tests) in
          record {
            stands = record {
              begun = begun_later low n begin s.begun;
              no_fall = s.no_fall;
              no_bits = s.no_bits;
              rise = n;
              found = risen e l;
              late = late;
              near = l;
              after = omega arith;
              quiet = λ u a b. absurd (omega arith);
              early = omega arith;
            };
            reported = start_going low n begin (high_later low begin n n (risen e l) late (λ u a b. absurd (omega arith)) (omega arith));
            ends = tt;
          }

      stay : low n ≡ true → is_rise low n ≡ false → n ≤ begin + win.start_low.most → StepsBy win low n StartLow begin bits (reported_so h Nothing)
      stay now e l = record {
        stands = record {
          begun = begun_later low n begin s.begun;
          no_fall = s.no_fall;
          no_bits = s.no_bits;
          quiet = quiet_to e;
          early = omega arith;
          still = was_now low n ∙ now;
        };
        reported = start_going low n begin (low_later low begin n (quiet_to e) l (next_rise low begin win.start_low.most) refl);
        ends = tt;
      }

      low_now : is_rise low n ≡ false → low n ≡ true
      low_now e = by_low (low n) (sym (ap (λ w. not (low n) && w) s.still) ∙ e)
        where
          by_low : (b : Bool) → (not b && true) ≡ false → b ≡ true
          by_low true k = refl
          by_low false k = cc

      by_rise : n ≤ begin + win.start_low.most → (r : Bool) → is_rise low n ≡ r
          → StepsBy win low n StartLow begin bits (if r then (if nat_lt n (begin + win.start_low.least) then reported_so rest (Ended BadStart) else reported_so (record { place = StartHigh; begin = begin; fall = fall; bits = bits }) Nothing) else reported_so h Nothing)
      by_rise l true e = by_soon l e (nat_lt n (begin + win.start_low.least)) refl
      by_rise l false e = stay (low_now e) e l

      by_late : (b : Bool) → nat_lt (begin + win.start_low.most) n ≡ b
          → StepsBy win low n StartLow begin bits (if b then reported_so (starts n (is_fall low n)) (Ended BadStart)
          else if is_rise low n then (if nat_lt n (begin + win.start_low.least) then reported_so rest (Ended BadStart) else reported_so (record { place = StartHigh; begin = begin; fall = fall; bits = bits }) Nothing) else reported_so h Nothing)
      by_late true k =
          let l : begin + win.start_low.most < n = grind (arith, nat_tests) in
          let at : begin + (win.start_low.most + 1) ≡ n = omega (arith, l, s.early) in
          let d = bad_start low n begin n (ap (start_rise_by win low begin) (first_in_none (is_rise low) (begin + 1) win.start_low.most (λ u a b. s.quiet u (omega arith) (omega (arith, at)))) ∙ ap (λ m. let r : Result ℕ ℕ = Err m in r) at) (omega (arith, at)) in
          let falls : is_fall low n ≡ false = ap (λ w. low n && not w) s.still ∙ and_no (low n) in
          record {
            stands = subst (λ b. StandsInBy win low (n + 1) (starts n b).place (starts n b).begin (starts n b).fall (starts n b).bits) (sym falls) (rests_so low n begin n s.begun d.0 d.1);
            reported = d.2;
            ends = bad_end low n begin bits s.no_bits d.3;
          }
        where
          and_no : (b : Bool) → (b && false) ≡ false
          and_no true = refl
          and_no false = refl
      by_late false k = by_rise (let l : n ≤ begin + win.start_low.most = grind (arith, nat_tests) in l) (is_rise low n) refl

  -- after the rise
  high_step : (low : Line) (n begin fall : ℕ) (bits : List Bool) → AtStartHighBy win low n begin fall bits
      → StepsBy win low n StartHigh begin bits (hear_start_high_by win n (is_fall low n) (record { place = StartHigh; begin = begin; fall = fall; bits = bits }))
  unfolding StandsInBy
  high_step low n begin fall bits s = by_late (nat_lt (begin + win.start_total.most) n) refl
    where
      h : Hears
      h = record { place = StartHigh; begin = begin; fall = fall; bits = bits }

      found : is_fall low n ≡ true → n ≤ begin + win.start_total.most → next_fall low s.rise (begin + win.start_total.most - s.rise) ≡ Some n
      found e l = first_in_some (is_fall low) (s.rise + 1) (begin + win.start_total.most - s.rise) n (omega (arith, s.after)) (omega (arith, l, s.near)) e (λ u a b. s.quiet u (omega arith) b)

      start : is_fall low n ≡ true → n ≤ begin + win.start_total.most → start_by win low begin ≡ (if nat_lt n (begin + win.start_total.least) then Err n else Ok n)
      start e l = start_risen win ok low begin s.rise s.found s.late ∙ ap (start_fall_by win begin) (found e l)

      quiet_to : is_fall low n ≡ false → (u : ℕ) → s.rise < u → u < n + 1 → is_fall low u ≡ false
      quiet_to e u l m = elim (cases_lt u n) [ inl lt ↦ s.quiet u l lt | inr ge ↦ let same : u ≡ n = omega arith in rw same e ]

      by_soon : n ≤ begin + win.start_total.most → is_fall low n ≡ true → (b : Bool) → nat_lt n (begin + win.start_total.least) ≡ b
          → StepsBy win low n StartHigh begin bits (if b then reported_so rest (Ended BadStart) else reported_so (record { place = Unsampled; begin = begin; fall = n; bits = bits }) Nothing)
      by_soon l e true k =
          let d = bad_start low n begin n (start e l ∙ ap (λ b. let r : Result ℕ ℕ = if b then Err n else Ok n in r) k) (omega arith) in
          record { stands = rests_so low n begin n s.begun d.0 d.1; reported = d.2; ends = bad_end low n begin bits s.no_bits d.3 }
      by_soon l e false k =
          let reached : Reached win low begin 160 [] bits n = subst (λ (bs : List Bool). Reached win low begin 160 [] bs n) (sym s.no_bits) (reached_start win ok low begin n (start e l ∙ ap (λ b. let r : Result ℕ ℕ = if b then Err n else Ok n in r) k)) in
          let none : length bits ≡ 0 = ap (λ (bs : List Bool). length bs) s.no_bits in
          let waits : Waits win ok low n (n + 1) (last_ending bits) = record { after = omega arith; quiet = λ u a b. absurd (omega arith); early = omega arith; plain = λ ending w. omega arith } in
          record {
            stands = record {
              slot = record {
                begun = begun_later low n begin s.begun;
                xs = [];
                left = 159;
                reached = reached;
                room = omega (arith, none);
                count = sym none;
                quiet = λ u a b. absurd (omega arith);
                after = omega arith;
              };
              early = omega arith;
            };
            reported = going_reported low n begin None Nothing (let x = ends_later win ok low begin 159 [] bits n (n + 1) reached waits in omega (arith, x))
                (ap (sample_in n 1) (known_waiting win ok low begin 159 [] bits n (n + 1) reached waits) ∙ sample_slot low n n [] tt (omega arith)
                ∙ ap (λ b. if b then sample_of 1 (bit_sampled_at low n) else None) (let x : (n + sample_at == n) ≡ false = grind (arith, nat_tests) in x)) refl;
            ends = tt;
          }

      stay : n ≤ begin + win.start_total.most → is_fall low n ≡ false → StepsBy win low n StartHigh begin bits (reported_so h Nothing)
      stay l e = record {
        stands = record {
          begun = begun_later low n begin s.begun;
          no_fall = s.no_fall;
          no_bits = s.no_bits;
          rise = s.rise;
          found = s.found;
          late = s.late;
          near = s.near;
          after = omega (arith, s.after);
          quiet = quiet_to e;
          early = omega arith;
        };
        reported = start_going low n begin (high_later low begin s.rise n s.found s.late (quiet_to e) l);
        ends = tt;
      }

      by_fall : n ≤ begin + win.start_total.most → (f : Bool) → is_fall low n ≡ f
          → StepsBy win low n StartHigh begin bits (if f then (if nat_lt n (begin + win.start_total.least) then reported_so rest (Ended BadStart) else reported_so (record { place = Unsampled; begin = begin; fall = n; bits = bits }) Nothing) else reported_so h Nothing)
      by_fall l true e = by_soon l e (nat_lt n (begin + win.start_total.least)) refl
      by_fall l false e = stay l e

      by_late : (b : Bool) → nat_lt (begin + win.start_total.most) n ≡ b
          → StepsBy win low n StartHigh begin bits (if b then reported_so (starts n (is_fall low n)) (Ended BadStart)
          else if is_fall low n then (if nat_lt n (begin + win.start_total.least) then reported_so rest (Ended BadStart) else reported_so (record { place = Unsampled; begin = begin; fall = n; bits = bits }) Nothing) else reported_so h Nothing)
      by_late true k =
          let l : begin + win.start_total.most < n = grind (arith, nat_tests) in
          let at : begin + (win.start_total.most + 1) ≡ n = omega (arith, l, s.early) in
          let d = bad_start low n begin (begin + win.start_total.most) (start_risen win ok low begin s.rise s.found s.late
          ∙ ap (start_fall_by win begin) (first_in_none (is_fall low) (s.rise + 1) (begin + win.start_total.most - s.rise) (λ u a b. s.quiet u (omega arith) (omega (arith, at, s.near, a, b)))) ∙ ap (λ m. let r : Result ℕ ℕ = Err m in r) at) (omega (arith, at)) in
          record { stands = late_rest low n begin s.begun d.0 (omega (arith, d.1, at)); reported = d.2; ends = bad_end low n begin bits s.no_bits d.3 }
      by_late false k = by_fall (let l : n ≤ begin + win.start_total.most = grind (arith, nat_tests) in l) (is_fall low n) refl

  -- ---- in a slot

  -- the reading ends with n in this slot
  slot_ends : (low : Line) (n begin fall : ℕ) (before : List Bool) → (s : AtSlotBy win low n begin fall before) → (ending : Ending) → after_by win low fall (last_ending before) ≡ Ends ending n
      → (sample : Option Sample) → (if fall + sample_at == n then sample_of (1 + length s.xs) (bit_sampled_at low fall) else None) ≡ sample → (reported : Told) → reported_with sample true ending ≡ reported
      → ((reading_by win low begin).at ≡ n) × ((reading_by win low begin).until ≡ last_heard ending n) × (reported ≡ reported_since win low n (Some begin))
      × KnowsBy win low (n + 1) begin (before ++ option_to_list (if nat_lt (fall + sample_at) (n + 1) then bit_sampled_at low fall else None)) (has_all ending) true
  slot_ends low n begin fall before s ending a sample is reported kind = (
    at,
    ap (λ (r : Read). r.until) reads,
    sym (ap (λ x. reported_with x ((reading_by win low begin).at == n) (reading_by win low begin).ending) here
        ∙ ap (λ b. reported_with sample b (reading_by win low begin).ending) (same_test (reading_by win low begin).at n at)
        ∙ ap (λ (r : Read). reported_with sample true r.ending) reads ∙ kind),
    record {
      bits_are = ap (λ (ss : List Slot). filter_map (λ (x : Slot). x.bit) ss) slots ∙ reported_more s.xs before (known_slot (n + 1) (record { fall = fall; bit = bit_sampled_at low fall })) s.reached.reported;
      whole_is = ap (λ (r : Read). is_whole (known_at (n + 1) r).ended) reads
          ∙ ap (λ b. let o : Option End = if b then Some (record { ending = ending; at = n; until = last_heard ending n }) else None in is_whole o) (heard_by_then ending);
      over_is = ap (λ m. nat_lt m (n + 1)) at ∙ (let x : nat_lt n (n + 1) ≡ true = grind (arith, nat_tests) in x);
    },
  )
    where
      reads : reading_by win low begin ≡ record { slots = s.xs ++ record { fall = fall; bit = bit_sampled_at low fall } ∷ []; ending = ending; at = n; until = last_heard ending n }
      reads = ends_so win ok low begin s.left s.xs before fall ending n s.reached a

      at : (reading_by win low begin).at ≡ n
      at = ap (λ (r : Read). r.at) reads

      slots : (known_at (n + 1) (reading_by win low begin)).slots ≡ s.xs ++ known_slot (n + 1) (record { fall = fall; bit = bit_sampled_at low fall }) ∷ []
      slots = known_ending win ok low begin s.left s.xs before fall (n + 1) ending n s.reached (omega (arith, s.after)) a

      plainly : nat_lt n (n + 1) ≡ true
      plainly = grind (arith, nat_tests)

      heard_by_then : (e : Ending) → nat_lt (last_heard e n) (n + 1) ≡ true
      heard_by_then Silent = grind (arith, nat_tests)
      heard_by_then Complete = plainly
      heard_by_then Short = plainly
      heard_by_then BadStart = plainly
      heard_by_then Long = plainly
      heard_by_then Open = plainly

      here : sample_in n 1 (known_at (n + 1) (reading_by win low begin)).slots ≡ sample
      here = ap (sample_in n 1) slots
          ∙ sample_slot low n fall s.xs s.reached.over (let x = s.after in omega (arith, x)) ∙ is

  -- the slot goes on after n
  slot_going : (low : Line) (n begin fall left : ℕ) (xs : List Slot) (before : List Bool) → Reached win low begin (suc left) xs before fall → fall ≤ n → Waits win ok low fall (n + 1) (last_ending before)
      → (sample : Option Sample) → (if fall + sample_at == n then sample_of (1 + length xs) (bit_sampled_at low fall) else None) ≡ sample → (reported : Told)
      → ((ending : Ending) → reported ≡ reported_with sample false ending) → reported ≡ reported_since win low n (Some begin)
  slot_going low n begin fall left xs before r l w sample is reported kind =
      going_reported low n begin sample reported (let x = ends_later win ok low begin left xs before fall (n + 1) r w in omega (arith, x))
      (ap (sample_in n 1) (known_waiting win ok low begin left xs before fall (n + 1) r w) ∙ sample_slot low n fall xs r.over l ∙ is) (kind (reading_by win low begin).ending)

  slot_later : (low : Line) (n begin fall : ℕ) (before : List Bool) → AtSlotBy win low n begin fall before → is_fall low n ≡ false → AtSlotBy win low (n + 1) begin fall before
  slot_later low n begin fall before s f = record {
    begun = begun_later low n begin s.begun;
    xs = s.xs;
    left = s.left;
    reached = s.reached;
    room = s.room;
    count = s.count;
    quiet = quiet_more low fall n s.quiet f;
    after = omega (arith, s.after);
  }

  -- a fall before the sample or with it
  early_fall : (low : Line) (n fall : ℕ) (last : Option Ending) → ((u : ℕ) → fall < u → u < n → is_fall low u ≡ false) → fall < n → n ≤ fall + sample_at → is_fall low n ≡ true → after_by win low fall last ≡ Ends Short n
  early_fall low n fall None q a l f =
      ap (after_fall_by win fall) (next_here low fall n win.bit_total.most q a (omega arith) f) ∙ ap (λ b. let x : After = if b then Ends Short n else Next n in x) (let x : nat_lt n (fall + win.bit_total.least) ≡ true = grind (arith, nat_tests) in x)
  early_fall low n fall (Some ending) q a l f = ap (after_last fall ending) (next_here low fall n sample_at q a l f)

  knows_so : (low : Line) (n begin : ℕ) (bits bits2 : List Bool) (whole : Bool) → bits ≡ bits2 → KnowsBy win low (n + 1) begin bits whole true → KnowsBy win low (n + 1) begin bits2 whole true
  knows_so low n begin bits bits2 whole e k = subst (λ (bs : List Bool). KnowsBy win low (n + 1) begin bs whole true) e k

  unsampled_step : (low : Line) (n begin fall : ℕ) (bits : List Bool) → AtUnsampledBy win low n begin fall bits
      → StepsBy win low n Unsampled begin bits (hear_unsampled n (is_fall low n) (low n) (record { place = Unsampled; begin = begin; fall = fall; bits = bits }))
  unfolding StandsInBy
  unsampled_step low n begin fall bits s = by_fall (is_fall low n) refl
    where
      h : Hears
      h = record { place = Unsampled; begin = begin; fall = fall; bits = bits }

      slot : AtSlotBy win low n begin fall bits
      slot = s.slot

      breaks : is_fall low n ≡ true → StepsBy win low n Unsampled begin bits (reported_so rest (Ended Short))
      breaks f =
          let d = slot_ends low n begin fall bits slot Short (early_fall low n fall (last_ending bits) slot.quiet slot.after s.early f) None
          (no_sample (fall + sample_at == n) (1 + length slot.xs) (bit_sampled_at low fall) (ap (bit_of low fall) (next_here low fall n sample_at slot.quiet slot.after s.early f))) (Ended Short) refl in
          record { stands = rests_so low n begin n slot.begun d.0 d.1; reported = d.2; ends = knows_so low n begin _ bits false (unsampled_bits (ap (bit_of low fall) (next_here low fall n sample_at slot.quiet slot.after s.early f)) (nat_lt (fall + sample_at) (n + 1))) d.3 }
        where
          unsampled_bits : bit_sampled_at low fall ≡ None → (b : Bool) → bits ++ option_to_list (if b then bit_sampled_at low fall else None) ≡ bits
          unsampled_bits e true = ap (λ (o : Option Bool). bits ++ option_to_list o) e ∙ append-nil bits
          unsampled_bits e false = append-nil bits

          bit_of : Line → ℕ → Option ℕ → Option Bool
          bit_of low e None = Some (not (low (e + sample_at)))
          bit_of low e (Some f) = None

      goes : is_fall low n ≡ false → (fall + sample_at == n) ≡ false → n < fall + sample_at → StepsBy win low n Unsampled begin bits (reported_so h Nothing)
      goes f other l = record {
        stands = record { slot = slot_later low n begin fall bits slot f; early = omega arith };
        reported = slot_going low n begin fall slot.left slot.xs bits slot.reached (let x = slot.after in omega (arith, x))
            (record { after = omega (arith, slot.after); quiet = quiet_more low fall n slot.quiet f; early = omega arith; plain = λ ending w. omega arith })
            None (not_now fall n (1 + length slot.xs) (bit_sampled_at low fall) other) Nothing (λ ending. refl);
        ends = tt;
      }

      value : fall + sample_at ≡ n → is_fall low n ≡ false → bit_sampled_at low fall ≡ Some (not (low n))
      value e f = quiet_sample low fall (λ u a b. quiet_more low fall n slot.quiet f u a (omega (arith, e))) ∙ ap (λ m. Some (not (low m))) e

      at_now : fall + sample_at ≡ n → is_fall low n ≡ false → (if fall + sample_at == n then sample_of (1 + length slot.xs) (bit_sampled_at low fall) else None) ≡ Some (record { slot = length bits + 1; value = not (low n) })
      at_now e f =
          ap (λ b. if b then sample_of (1 + length slot.xs) (bit_sampled_at low fall) else None) (let x : (fall + sample_at == n) ≡ true = grind (arith, nat_tests) in x)
          ∙ ap (sample_of (1 + length slot.xs)) (value e f)
          ∙ ap (λ k. let o : Option Sample = Some (record { slot = k; value = not (low n) }) in o) (let x = slot.count in let y : 1 + length slot.xs ≡ length bits + 1 = omega (arith, x) in y)

      by_last : fall + sample_at ≡ n → is_fall low n ≡ false → (last : Option Ending) → last_ending bits ≡ last → StepsBy win low n Unsampled begin bits (sample_as last (not (low n)) h)
      by_last e f None k = record {
        stands = record {
          before = bits;
          slot = slot_later low n begin fall bits slot f;
          reported = ap (λ m. bits ++ not (low m) ∷ []) (sym e);
          plain = k;
          past = omega (arith, e);
          early = omega (arith, e);
        };
        reported = slot_going low n begin fall slot.left slot.xs bits slot.reached (omega (arith, e))
            (record { after = omega (arith, e); quiet = quiet_more low fall n slot.quiet f; early = omega (arith, e); plain = λ ending w. let x : None ≡ Some ending = sym k ∙ w in cc })
            (Some (record { slot = length bits + 1; value = not (low n) })) (at_now e f) (Bit (length bits + 1) (not (low n))) (λ ending. refl);
        ends = tt;
      }
      by_last e f (Some ending) k =
          let d = slot_ends low n begin fall bits slot ending
          (ap (after_by win low fall) k ∙ ap (after_last fall ending) (next_none low fall (n + 1) sample_at (quiet_more low fall n slot.quiet f) (omega (arith, e))) ∙ ap (λ m. let a : After = Ends ending m in a) e)
          (Some (record { slot = length bits + 1; value = not (low n) })) (at_now e f) (Last (not (low n)) ending) refl in
          record { stands = rests_so low n begin n slot.begun d.0 (d.1 ∙ subst IsPlain k (last_plain bits) n); reported = d.2; ends = (subst (λ b. KnowsBy win low (n + 1) begin (bits ++ not (low n) ∷ []) b true) (last_has bits ending k).0 (knows_so low n begin _ (bits ++ not (low n) ∷ []) (has_all ending) sampled_bits d.3), (last_has bits ending k).1) }
        where
          sampled_bits : bits ++ option_to_list (if nat_lt (fall + sample_at) (n + 1) then bit_sampled_at low fall else None) ≡ bits ++ not (low n) ∷ []
          sampled_bits = ap (λ b. bits ++ option_to_list (if b then bit_sampled_at low fall else None)) (let x : nat_lt (fall + sample_at) (n + 1) ≡ true = grind (arith, nat_tests) in x)
              ∙ ap (λ (o : Option Bool). bits ++ option_to_list o) (value e f)

      by_time : is_fall low n ≡ false → (b : Bool) → (n == fall + sample_at) ≡ b → StepsBy win low n Unsampled begin bits (if b then sample_as (last_ending bits) (not (low n)) h else reported_so h Nothing)
      by_time f true k = by_last (let x : fall + sample_at ≡ n = grind (arith, nat_tests) in x) f (last_ending bits) refl
      by_time f false k =
          let l = s.early in let x : n < fall + sample_at = grind (arith, nat_tests) in
          goes f (let y : (fall + sample_at == n) ≡ false = grind (arith, nat_tests) in y) x

      by_fall : (b : Bool) → is_fall low n ≡ b → StepsBy win low n Unsampled begin bits (if b then reported_so rest (Ended Short) else if n == fall + sample_at then sample_as (last_ending bits) (not (low n)) h else reported_so h Nothing)
      by_fall true f = breaks f
      by_fall false f = by_time f (n == fall + sample_at) refl

  sampled_step : (low : Line) (n begin fall : ℕ) (bits : List Bool) → AtSampledBy win low n begin fall bits
      → StepsBy win low n Sampled begin bits (hear_sampled_by win n (is_fall low n) (record { place = Sampled; begin = begin; fall = fall; bits = bits }))
  unfolding StandsInBy
  sampled_step low n begin fall bits s = by_late (nat_lt (fall + win.bit_total.most) n) refl
    where
      h : Hears
      h = record { place = Sampled; begin = begin; fall = fall; bits = bits }

      slot : AtSlotBy win low n begin fall s.before
      slot = s.slot

      no : (fall + sample_at == n) ≡ false
      no = let l = s.past in grind (arith, nat_tests)

      here : is_fall low n ≡ true → n ≤ fall + win.bit_total.most → after_by win low fall (last_ending s.before) ≡ (if nat_lt n (fall + win.bit_total.least) then Ends Short n else Next n)
      here f l = ap (after_by win low fall) s.plain ∙ ap (after_fall_by win fall) (next_here low fall n win.bit_total.most slot.quiet slot.after l f)

      plain_yet : (ending : Ending) → last_ending s.before ≡ Some ending → n + 1 ≤ fall + sample_at
      plain_yet ending w = let x : None ≡ Some ending = sym s.plain ∙ w in cc

      bit : bit_sampled_at low fall ≡ Some (not (low (fall + sample_at)))
      bit = quiet_sample low fall (λ u a b. slot.quiet u a (omega (arith, s.past)))

      before2 : s.before ++ option_to_list (bit_sampled_at low fall) ≡ bits
      before2 = ap (λ (o : Option Bool). s.before ++ option_to_list o) bit ∙ sym s.reported

      sampled_bits : s.before ++ option_to_list (if nat_lt (fall + sample_at) (n + 1) then bit_sampled_at low fall else None) ≡ bits
      sampled_bits = ap (λ b. s.before ++ option_to_list (if b then bit_sampled_at low fall else None)) (let l = s.past in let x : nat_lt (fall + sample_at) (n + 1) ≡ true = grind (arith, nat_tests) in x) ∙ before2

      more : length bits ≡ length s.before + 1
      more = ap (λ (bs : List Bool). length bs) s.reported ∙ length-append s.before (not (low (fall + sample_at)) ∷ [])

      next_slot : (left : ℕ) → length s.before + left ≡ 159 → Reached win low begin (suc left) slot.xs s.before fall → is_fall low n ≡ true → fall + win.bit_total.least ≤ n → after_by win low fall (last_ending s.before) ≡ Next n
          → StepsBy win low n Sampled begin bits (reported_so (record { place = Unsampled; begin = begin; fall = n; bits = bits }) Nothing)
      next_slot zero m r f far a = absurd (last_full s.before (omega arith) s.plain)
      next_slot (suc left) m r f far a =
          let reached : Reached win low begin (suc left) (slot.xs ++ record { fall = fall; bit = bit_sampled_at low fall } ∷ []) bits n = subst (λ (bs : List Bool). Reached win low begin (suc left) (slot.xs ++ record { fall = fall; bit = bit_sampled_at low fall } ∷ []) bs n) before2
          (reach_next win ok low begin (suc left) slot.xs s.before fall n r a far) in
          record {
            stands = record {
              slot = record {
                begun = begun_later low n begin slot.begun;
                xs = slot.xs ++ record { fall = fall; bit = bit_sampled_at low fall } ∷ [];
                left = left;
                reached = reached;
                room = omega (arith, more, m);
                count = length-append slot.xs (record { fall = fall; bit = bit_sampled_at low fall } ∷ []) ∙ (let x : length slot.xs + 1 ≡ length bits = omega (arith, more, slot.count) in x);
                quiet = λ u a b. absurd (omega arith);
                after = omega arith;
              };
              early = omega arith;
            };
            reported = slot_going low n begin n left (slot.xs ++ record { fall = fall; bit = bit_sampled_at low fall } ∷ []) bits reached (omega arith)
                (record { after = omega arith; quiet = λ u a b. absurd (omega arith); early = omega arith; plain = λ ending w. omega arith })
                None (not_now n n (1 + length (slot.xs ++ record { fall = fall; bit = bit_sampled_at low fall } ∷ [])) (bit_sampled_at low n) (let x : (n + sample_at == n) ≡ false = grind (arith, nat_tests) in x)) Nothing (λ ending. refl);
            ends = tt;
          }

      by_soon : is_fall low n ≡ true → n ≤ fall + win.bit_total.most → (b : Bool) → nat_lt n (fall + win.bit_total.least) ≡ b
          → StepsBy win low n Sampled begin bits (if b then reported_so rest (Ended Short) else reported_so (record { place = Unsampled; begin = begin; fall = n; bits = bits }) Nothing)
      by_soon f l true k =
          let d = slot_ends low n begin fall s.before slot Short (here f l ∙ ap (λ b. let a : After = if b then Ends Short n else Next n in a) k) None (not_now fall n (1 + length slot.xs) (bit_sampled_at low fall) no) (Ended Short) refl in
          record { stands = rests_so low n begin n slot.begun d.0 d.1; reported = d.2; ends = knows_so low n begin _ bits false sampled_bits d.3 }
      by_soon f l false k =
          next_slot slot.left slot.room slot.reached f (let x : fall + win.bit_total.least ≤ n = grind (arith, nat_tests) in x) (here f l ∙ ap (λ b. let a : After = if b then Ends Short n else Next n in a) k)

      by_fall : n ≤ fall + win.bit_total.most → (b : Bool) → is_fall low n ≡ b
          → StepsBy win low n Sampled begin bits (if b then (if nat_lt n (fall + win.bit_total.least) then reported_so rest (Ended Short) else reported_so (record { place = Unsampled; begin = begin; fall = n; bits = bits }) Nothing) else reported_so h Nothing)
      by_fall l true f = by_soon f l (nat_lt n (fall + win.bit_total.least)) refl
      by_fall l false f = record {
        stands = record { before = s.before; slot = slot_later low n begin fall s.before slot f; reported = s.reported; plain = s.plain; past = omega (arith, s.past); early = omega arith };
        reported = slot_going low n begin fall slot.left slot.xs s.before slot.reached (let x = slot.after in omega (arith, x))
            (record { after = omega (arith, slot.after); quiet = quiet_more low fall n slot.quiet f; early = omega arith; plain = plain_yet })
            None (not_now fall n (1 + length slot.xs) (bit_sampled_at low fall) no) Nothing (λ ending. refl);
        ends = tt;
      }

      by_late : (b : Bool) → nat_lt (fall + win.bit_total.most) n ≡ b
          → StepsBy win low n Sampled begin bits (if b then reported_so (starts n (is_fall low n)) (Ended Silent)
          else if is_fall low n then (if nat_lt n (fall + win.bit_total.least) then reported_so rest (Ended Short) else reported_so (record { place = Unsampled; begin = begin; fall = n; bits = bits }) Nothing) else reported_so h Nothing)
      by_late true k =
          let l : fall + win.bit_total.most < n = grind (arith, nat_tests) in
          let at : fall + (win.bit_total.most + 1) ≡ n = omega (arith, l, s.early) in
          let d = slot_ends low n begin fall s.before slot Silent
          (ap (after_by win low fall) s.plain ∙ ap (after_fall_by win fall) (next_none low fall n win.bit_total.most slot.quiet l) ∙ ap (λ m. let a : After = Ends Silent m in a) at)
          None (not_now fall n (1 + length slot.xs) (bit_sampled_at low fall) no) (Ended Silent) refl in
          record { stands = late_rest low n begin slot.begun d.0 (omega (arith, d.1, at)); reported = d.2; ends = knows_so low n begin _ bits false sampled_bits d.3 }
      by_late false k = by_fall (let l : n ≤ fall + win.bit_total.most = grind (arith, nat_tests) in l) (is_fall low n) refl

  -- ---- any step

  pub step : (low : Line) (n : ℕ) (place : ReceiverState) (begin fall : ℕ) (bits : List Bool) → StandsInBy win low n place begin fall bits
      → StepsBy win low n place begin bits (hear_in_by win n (was_low low n) (low n) (record { place = place; begin = begin; fall = fall; bits = bits }))
  unfolding StandsInBy
  step low n Rest begin fall bits s = record { stands = starts_so low n s.past s.from (past_later low n 0 s.past s.from s.over) s.by s.quiet; reported = refl; ends = tt }
  step low n StartLow begin fall bits s = low_step low n begin fall bits s
  step low n StartHigh begin fall bits s = high_step low n begin fall bits s
  step low n Unsampled begin fall bits s = unsampled_step low n begin fall bits s
  step low n Sampled begin fall bits s = sampled_step low n begin fall bits s

  -- Where a line has been heard before n
  pub stands_at : (low : Line) (n : ℕ) → StandsInBy win low n (hears_with win low n).place (hears_with win low n).begin (hears_with win low n).fall (hears_with win low n).bits
  unfolding hears_with
  stands_at low zero = stands_first low
  stands_at low (suc n) =
      subst (λ m. StandsInBy win low m (hears_with win low (suc n)).place (hears_with win low (suc n)).begin (hears_with win low (suc n)).fall (hears_with win low (suc n)).bits) (let x : n + 1 ≡ suc n = omega arith in x)
      (step low n (hears_with win low n).place (hears_with win low n).begin (hears_with win low n).fall (hears_with win low n).bits (stands_at low n)).stands

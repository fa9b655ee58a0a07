-- A reading depends on the line from its fall to its last microsecond alone.
use Rattle.std.proofs.Common.{◌≡◌, ℕ, zero, suc, ◌+◌, ◌-◌, ◌<◌, ◌≤◌, Bool, true, false, not, min, nat_lt, if◌then◌else◌, List, [], ◌++◌, inl, inr, Option, Some, None, Result, Ok, Err, refl, arith, ap, ◌∙◌, sym, subst}
use Rattle.std.proofs.lemmas.Bool.{cases_lt}
use Rattle.std.specs.Option.{option_to_list}
use Rattle.line_wave.specs.Line.{Line, is_fall, is_rise}
use Rattle.line_frames.specs.declared.Ending.{Ending}
use Rattle.line_frames.specs.declared.Ending.TheVariants.{Short}
use Rattle.line_reading.specs.Reading.After.{Next, Ends}
use Rattle.line_reading.specs.Reading.{next_fall, next_rise, Read, slots_by, read_on, read_then, after_by, after_fall_by, after_last, last_ending, sample, bit_sampled_at, last_heard, read_start_by, start_by, start_rise_by, start_fall_by, After}
use Rattle.line_reading.specs.Readings.{ReadingsAreOwnBy}
use Rattle.line_reading.proofs.Search.{first_in_agree, first_in_till, first_in_longer, found_first, found_none}
use Rattle.line_reading.proofs.CausesBy.{last_plain, not_over}
use Rattle.line_reading.specs.declared.times.Windows.{Windows}
use Rattle.line_reading.specs.Windows.{AreWindows, sample_at}
use Rattle.line_reading.specs.Known.{IsPlain}

-- the lines are one from e to t
abbrev pub Between : ℕ → ℕ → Line → Line → Type 0
Between e t p q = (u : ℕ) → e ≤ u → u ≤ t → p u ≡ q u

falls_alike : (e t : ℕ) (p q : Line) → Between e t p q → (u : ℕ) → e < u → u ≤ t → is_fall p u ≡ is_fall q u
falls_alike e t p q a u l m = rw (a u (omega arith) m, a (u - 1) (omega arith) (omega arith)) refl

rises_alike : (e t : ℕ) (p q : Line) → Between e t p q → (u : ℕ) → e < u → u ≤ t → is_rise p u ≡ is_rise q u
rises_alike e t p q a u l m = rw (a u (omega arith) m, a (u - 1) (omega arith) (omega arith)) refl

-- how far the line has to be known for this
abbrev pub till : After → ℕ
till (Next f) = f
till (Ends ending at) = last_heard ending at

-- it reaches the sample, or the fall before it
abbrev Reaches : ℕ → ℕ → Option ℕ → Type 0
Reaches e n None = e + sample_at ≤ n
Reaches e n (Some g) = g ≤ n

sampled_alike : (p q : Line) (e n : ℕ) → Reaches e n (next_fall q e sample_at) → Between e n p q → bit_sampled_at p e ≡ bit_sampled_at q e
sampled_alike p q e n r a = by_near (next_fall q e sample_at) refl r
  where
    by_near : (o : Option ℕ) → next_fall q e sample_at ≡ o → Reaches e n o → sample p e (next_fall p e sample_at) ≡ sample q e (next_fall q e sample_at)
    by_near None h l =
        let k : next_fall p e sample_at ≡ None = first_in_agree (is_fall p) (is_fall q) (e + 1) sample_at (λ u b m. falls_alike e n p q a u (omega arith) (omega (arith, l))) ∙ h in
        ap (sample p e) k ∙ ap (λ b. Some (not b)) (a (e + sample_at) (omega arith) l) ∙ sym (ap (sample q e) h)
    by_near (Some g) h l =
        let k : next_fall p e sample_at ≡ Some g = first_in_till (is_fall p) (is_fall q) (e + 1) sample_at g h (λ u b m. falls_alike e n p q a u (omega arith) (omega (arith, l))) in
        ap (sample p e) k ∙ sym (ap (sample q e) h)

reach_after : (q : Line) (e n : ℕ) (o : Option ℕ) → next_fall q e sample_at ≡ o → Reaches e n o → e ≤ n
reach_after q e n None h r = omega (arith, r)
reach_after q e n (Some g) h r = omega (arith, r, (found_first (is_fall q) (e + 1) sample_at g h).after)

-- ---- the slots

till_on : (rest : ℕ → Read) (a : After) → ((f : ℕ) → f ≤ (rest f).until) → till a ≤ (read_on rest a).until
till_on rest (Next f) h = h f
till_on rest (Ends ending at) h = omega arith

on_alike : (rest other : ℕ → Read) (a : After) → ((f : ℕ) → a ≡ Next f → rest f ≡ other f) → read_on rest a ≡ read_on other a
on_alike rest other (Next f) h = h f refl
on_alike rest other (Ends ending at) h = refl

module _ (win : Windows) (ok : AreWindows win) where
  till_fall : (e f : ℕ) → till (after_fall_by win e (Some f)) ≡ f
  till_fall e f = elim (nat_lt f (e + win.bit_total.least)) as (λ b. till (if b then Ends Short f else Next f) ≡ f) [ true ↦ refl | false ↦ refl ]

  after_alike : (p q : Line) (e : ℕ) (last : Option Ending) → IsPlain last → Between e (till (after_by win q e last)) p q → after_by win p e last ≡ after_by win q e last
  after_alike p q e None w a = by_found (next_fall q e win.bit_total.most) refl a
    where
      by_found : (o : Option ℕ) → next_fall q e win.bit_total.most ≡ o → Between e (till (after_fall_by win e o)) p q → after_fall_by win e (next_fall p e win.bit_total.most) ≡ after_fall_by win e (next_fall q e win.bit_total.most)
      by_found None h b = ap (after_fall_by win e) (first_in_agree (is_fall p) (is_fall q) (e + 1) win.bit_total.most (λ u l m. falls_alike e (e + win.bit_total.most) p q (λ v x y. b v x (omega arith)) u (omega arith) (omega arith)))
      by_found (Some f) h b =
          let c : Between e f p q = subst (λ n. Between e n p q) (till_fall e f) b in
          ap (after_fall_by win e) (first_in_till (is_fall p) (is_fall q) (e + 1) win.bit_total.most f h (λ u l m. falls_alike e f p q c u (omega arith) m) ∙ sym h)
  after_alike p q e (Some ending) w a = by_found (next_fall q e sample_at) refl a
    where
      by_found : (o : Option ℕ) → next_fall q e sample_at ≡ o → Between e (till (after_last e ending o)) p q → after_last e ending (next_fall p e sample_at) ≡ after_last e ending (next_fall q e sample_at)
      by_found None h b =
          let c : Between e (e + sample_at) p q = subst (λ n. Between e n p q) (w (e + sample_at)) b in
          ap (after_last e ending) (first_in_agree (is_fall p) (is_fall q) (e + 1) sample_at (λ u l m. falls_alike e (e + sample_at) p q c u (omega arith) (omega arith)))
      by_found (Some f) h b = ap (after_last e ending) (first_in_till (is_fall p) (is_fall q) (e + 1) sample_at f h (λ u l m. falls_alike e f p q b u (omega arith) m) ∙ sym h)

  reaches : (q : Line) (e : ℕ) (last : Option Ending) → IsPlain last → Reaches e (till (after_by win q e last)) (next_fall q e sample_at)
  reaches q e None w = by_near (next_fall q e sample_at) refl
    where
      by_far : next_fall q e sample_at ≡ None → (o : Option ℕ) → next_fall q e win.bit_total.most ≡ o → e + sample_at ≤ till (after_fall_by win e o)
      by_far h None k = omega arith
      by_far h (Some f) k =
          let d = found_first (is_fall q) (e + 1) win.bit_total.most f k in
          let l : e + sample_at ≤ f = elim (cases_lt (e + sample_at) f) [
            | inl lt ↦ omega arith
            | inr ge ↦ (let x : is_fall q f ≡ false = found_none (is_fall q) (e + 1) sample_at h f d.after (omega arith) in let y : true ≡ false = sym d.passes ∙ x in cc)
          ] in
          omega (arith, l, till_fall e f)

      by_near : (o : Option ℕ) → next_fall q e sample_at ≡ o → Reaches e (till (after_fall_by win e (next_fall q e win.bit_total.most))) o
      by_near None h = by_far h (next_fall q e win.bit_total.most) refl
      by_near (Some g) h =
          let k : next_fall q e win.bit_total.most ≡ Some g = first_in_longer (is_fall q) (e + 1) sample_at win.bit_total.most g (omega arith) h in
          omega (arith, ap (λ o. till (after_fall_by win e o)) k, till_fall e g)
  reaches q e (Some ending) w = by_near (next_fall q e sample_at)
    where
      by_near : (o : Option ℕ) → Reaches e (till (after_last e ending o)) o
      by_near None = omega (arith, w (e + sample_at))
      by_near (Some g) = omega arith

  slots_alike : (p q : Line) (left : ℕ) (bits : List Bool) (e : ℕ) → Between e (slots_by win q left bits e).until p q → slots_by win p left bits e ≡ slots_by win q left bits e
  unfolding slots_by
  slots_alike p q zero bits e a = refl
  slots_alike p q (suc left) bits e a =
      by_after (λ f b. slots_alike p q left (bits ++ option_to_list (bit_sampled_at q e)) f b)
    where
      far : till (after_by win q e (last_ending bits)) ≤ (read_on (slots_by win q left (bits ++ option_to_list (bit_sampled_at q e))) (after_by win q e (last_ending bits))).until
      far = till_on (slots_by win q left (bits ++ option_to_list (bit_sampled_at q e))) (after_by win q e (last_ending bits)) (λ f. not_over win ok q left (bits ++ option_to_list (bit_sampled_at q e)) f)

      near : Between e (till (after_by win q e (last_ending bits))) p q
      near u l m = a u l (omega (arith, far, m))

      reach : Reaches e (till (after_by win q e (last_ending bits))) (next_fall q e sample_at)
      reach = reaches q e (last_ending bits) (last_plain bits)

      same : after_by win p e (last_ending bits) ≡ after_by win q e (last_ending bits)
      same = after_alike p q e (last_ending bits) (last_plain bits) near

      bit : bit_sampled_at p e ≡ bit_sampled_at q e
      bit = sampled_alike p q e (till (after_by win q e (last_ending bits))) reach near

      later : e ≤ till (after_by win q e (last_ending bits))
      later = reach_after q e (till (after_by win q e (last_ending bits))) (next_fall q e sample_at) refl reach

      by_after : ((f : ℕ) → Between f (slots_by win q left (bits ++ option_to_list (bit_sampled_at q e)) f).until p q
          → slots_by win p left (bits ++ option_to_list (bit_sampled_at q e)) f ≡ slots_by win q left (bits ++ option_to_list (bit_sampled_at q e)) f)
          → read_then (record { fall = e; bit = bit_sampled_at p e }) (read_on (slots_by win p left (bits ++ option_to_list (bit_sampled_at p e))) (after_by win p e (last_ending bits)))
          ≡ read_then (record { fall = e; bit = bit_sampled_at q e }) (read_on (slots_by win q left (bits ++ option_to_list (bit_sampled_at q e))) (after_by win q e (last_ending bits)))
      by_after ih =
          ap (λ a. read_then (record { fall = e; bit = bit_sampled_at p e }) (read_on (slots_by win p left (bits ++ option_to_list (bit_sampled_at p e))) a)) same
          ∙ ap (λ b. read_then (record { fall = e; bit = b }) (read_on (slots_by win p left (bits ++ option_to_list b)) (after_by win q e (last_ending bits)))) bit
          ∙ ap (read_then (record { fall = e; bit = bit_sampled_at q e }))
          (on_alike (slots_by win p left (bits ++ option_to_list (bit_sampled_at q e))) (slots_by win q left (bits ++ option_to_list (bit_sampled_at q e))) (after_by win q e (last_ending bits))
          (λ f h. ih f (λ u l m. a u (omega (arith, l, later, ap till h)) (omega (arith, m, ap (λ x. (read_on (slots_by win q left (bits ++ option_to_list (bit_sampled_at q e))) x).until) h)))))

  -- ---- the start bit

  abbrev start_till : ℕ → Result ℕ ℕ → ℕ
  start_till e (Ok f) = f
  start_till e (Err at) = min at (e + win.start_total.most)

  fall_till : (q : Line) (e r f : ℕ) → next_fall q r (e + win.start_total.most - r) ≡ Some f → r ≤ e + win.start_low.most → start_till e (start_fall_by win e (Some f)) ≡ f
  fall_till q e r f h l =
      let d = found_first (is_fall q) (r + 1) (e + win.start_total.most - r) f h in
      by_time (omega (arith, d.within)) (nat_lt f (e + win.start_total.least))
    where
      by_time : f ≤ e + win.start_total.most → (b : Bool) → start_till e (if b then Err f else Ok f) ≡ f
      by_time m true = omega arith
      by_time m false = refl

  start_alike : (p q : Line) (e : ℕ) → Between e (start_till e (start_by win q e)) p q → start_by win p e ≡ start_by win q e
  start_alike p q e a = by_rise (next_rise q e win.start_low.most) refl a
    where
      by_fall : (r : ℕ) → r ≤ e + win.start_low.most → e < r → (o : Option ℕ) → next_fall q r (e + win.start_total.most - r) ≡ o → Between e (start_till e (start_fall_by win e o)) p q
          → start_fall_by win e (next_fall p r (e + win.start_total.most - r)) ≡ start_fall_by win e (next_fall q r (e + win.start_total.most - r))
      by_fall r l m None h b =
          let c : Between e (e + win.start_total.most) p q = λ u x y. b u x (omega arith) in
          ap (start_fall_by win e) (first_in_agree (is_fall p) (is_fall q) (r + 1) (e + win.start_total.most - r) (λ u x y. falls_alike e (e + win.start_total.most) p q c u (omega arith) (omega arith)))
      by_fall r l m (Some f) h b =
          let c : Between e f p q = subst (λ n. Between e n p q) (fall_till q e r f h l) b in
          ap (start_fall_by win e) (first_in_till (is_fall p) (is_fall q) (r + 1) (e + win.start_total.most - r) f h (λ u x y. falls_alike e f p q c u (omega arith) y) ∙ sym h)

      fall_late : (r : ℕ) → r ≤ e + win.start_low.most → (o : Option ℕ) → next_fall q r (e + win.start_total.most - r) ≡ o → r ≤ start_till e (start_fall_by win e o)
      fall_late r l None h = omega arith
      fall_late r l (Some f) h = omega (arith, fall_till q e r f h l, (found_first (is_fall q) (r + 1) (e + win.start_total.most - r) f h).after)

      by_low : (r : ℕ) → next_rise q e win.start_low.most ≡ Some r → (b : Bool) → nat_lt r (e + win.start_low.least) ≡ b → Between e (start_till e (if b then Err r else start_fall_by win e (next_fall q r (e + win.start_total.most - r)))) p q
          → start_rise_by win p e (next_rise p e win.start_low.most) ≡ start_rise_by win q e (Some r)
      by_low r h true k c =
          let d = found_first (is_rise q) (e + 1) win.start_low.most r h in
          let f : Between e r p q = λ u x y. c u x (omega (arith, d.within)) in
          let g : next_rise p e win.start_low.most ≡ Some r = first_in_till (is_rise p) (is_rise q) (e + 1) win.start_low.most r h (λ u x y. rises_alike e r p q f u (omega arith) y) in
          rw (g, k) refl
      by_low r h false k c =
          let d = found_first (is_rise q) (e + 1) win.start_low.most r h in
          let late : r ≤ start_till e (start_fall_by win e (next_fall q r (e + win.start_total.most - r))) = fall_late r (omega (arith, d.within)) (next_fall q r (e + win.start_total.most - r)) refl in
          let f : Between e r p q = λ u x y. c u x (omega (arith, late)) in
          let g : next_rise p e win.start_low.most ≡ Some r = first_in_till (is_rise p) (is_rise q) (e + 1) win.start_low.most r h (λ u x y. rises_alike e r p q f u (omega arith) y) in
          let s : start_fall_by win e (next_fall p r (e + win.start_total.most - r)) ≡ start_fall_by win e (next_fall q r (e + win.start_total.most - r)) =
          by_fall r (omega (arith, d.within)) (omega (arith, d.after)) (next_fall q r (e + win.start_total.most - r)) refl c in
          ap (start_rise_by win p e) g ∙ (rw k s)

      by_rise : (o : Option ℕ) → next_rise q e win.start_low.most ≡ o → Between e (start_till e (start_rise_by win q e o)) p q → start_rise_by win p e (next_rise p e win.start_low.most) ≡ start_rise_by win q e (next_rise q e win.start_low.most)
      by_rise None h b =
          let c : Between e (e + (win.start_low.most + 1)) p q = λ u x y. b u x (omega arith) in
          let g : next_rise p e win.start_low.most ≡ None = first_in_agree (is_rise p) (is_rise q) (e + 1) win.start_low.most (λ u x y. rises_alike e (e + (win.start_low.most + 1)) p q c u (omega arith) (omega arith)) ∙ h in
          ap (start_rise_by win p e) g ∙ sym (ap (start_rise_by win q e) h)
      by_rise (Some r) h b = by_low r h (nat_lt r (e + win.start_low.least)) refl b ∙ sym (ap (start_rise_by win q e) h)

  -- ---- the reading

  till_start : (q : Line) (e : ℕ) (s : Result ℕ ℕ) → start_till e s ≤ (read_start_by win q e s).until
  till_start q e (Ok f) = not_over win ok q 160 [] f
  till_start q e (Err at) = omega arith

  pub start_after : (q : Line) (e f : ℕ) → start_by win q e ≡ Ok f → e < f
  start_after q e f h = by_rise (next_rise q e win.start_low.most) refl h
    where
      by_time : (r g : ℕ) (b : Bool) → e < g → (if b then Err g else Ok g) ≡ Ok f → e < f
      by_time r g true l k = cc
      by_time r g false l k = let s : g ≡ f = cc in omega (arith, s)

      by_fall : (r : ℕ) → e < r → (o : Option ℕ) → next_fall q r (e + win.start_total.most - r) ≡ o → start_fall_by win e o ≡ Ok f → e < f
      by_fall r l None x k = cc
      by_fall r l (Some g) x k = by_time r g (nat_lt g (e + win.start_total.least)) (omega (arith, (found_first (is_fall q) (r + 1) (e + win.start_total.most - r) g x).after)) k

      by_low : (r : ℕ) → e < r → (b : Bool) → (if b then Err r else start_fall_by win e (next_fall q r (e + win.start_total.most - r))) ≡ Ok f → e < f
      by_low r l true k = cc
      by_low r l false k = by_fall r l (next_fall q r (e + win.start_total.most - r)) refl k

      by_rise : (o : Option ℕ) → next_rise q e win.start_low.most ≡ o → start_rise_by win q e o ≡ Ok f → e < f
      by_rise None x k = cc
      by_rise (Some r) x k = by_low r (omega (arith, (found_first (is_rise q) (e + 1) win.start_low.most r x).after)) (nat_lt r (e + win.start_low.least)) k

  pub same_read : (ReadingsAreOwnBy win)
  same_read p q e a =
      let same : start_by win p e ≡ start_by win q e = start_alike p q e (λ u l m. a u l (omega (arith, m, till_start q e (start_by win q e)))) in
      ap (read_start_by win p e) same ∙ by_start (start_by win q e) refl a
    where
      by_start : (s : Result ℕ ℕ) → start_by win q e ≡ s → Between e (read_start_by win q e s).until p q → read_start_by win p e s ≡ read_start_by win q e s
      by_start (Ok f) h b = slots_alike p q 160 [] f (λ u l m. b u (omega (arith, l, start_after q e f h)) m)
      by_start (Err at) h b = refl

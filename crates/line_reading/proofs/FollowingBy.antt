-- Between two wakes nothing is heard, so a receiver that skips to the next edge or wake keeps what the line's readings say.
use Rattle.std.proofs.Common.{◌≡◌, ◌≢◌, ℕ, zero, suc, ◌+◌, ◌-◌, ◌==◌, ◌<◌, ◌≤◌, Bool, true, false, not, ◌&&◌, nat_lt, if◌then◌else◌, List, Option, Some, None, refl, arith, ap, ◌∙◌, sym, subst}
use Rattle.std.proofs.lemmas.Bool.Decides.{nat_tests}
use Rattle.line_wave.specs.Line.{Line, was_low}
use Rattle.line_frames.specs.declared.Ending.{Ending}
use Rattle.line_frames.specs.declared.Ending.TheVariants.{Short, Silent, BadStart}
use Rattle.line_reading.specs.declared.receiver.ReceiverState.{ReceiverState}
use Rattle.line_reading.specs.declared.receiver.ReceiverState.TheVariants.{Rest, StartLow, StartHigh, Unsampled, Sampled}
use Rattle.line_reading.specs.declared.receiver.Told.{Told}
use Rattle.line_reading.specs.declared.receiver.Told.TheVariants.{Nothing, Ended}
use Rattle.line_reading.specs.Reading.{last_ending}
use Rattle.line_reading.specs.Hears.{Hears, Heard, reported_so, rest, starts, sample_as, hear_at_by, hear_in_by, hears_with, wake_of_by, wakes_left, hears_by}
use Rattle.line_reading.specs.Phase.{Standing, standing_with}
use Rattle.line_reading.specs.Kept.{kept_with, kept_with_before, reported_with_at, standing_by}
use Rattle.line_reading.specs.Follows.{IsNextReportedBy}
use Rattle.line_reading.proofs.KeepingBy.{kept_heard, before_heard, reported_heard, standings_are_kept}
use Rattle.line_reading.proofs.StoodBy.{stands_at}
use Rattle.line_reading.specs.declared.times.Windows.{Windows}
use Rattle.line_reading.specs.Windows.{AreWindows, sample_at}
use Rattle.line_wave.proofs.Waves.{was_now}
use Rattle.line_reading.specs.Places.{StandsInBy}

-- ---- a microsecond without an edge, before the wake

no_fall : (b : Bool) → (b && not b) ≡ false
no_fall true = refl
no_fall false = refl

no_rise : (b : Bool) → (not b && b) ≡ false
no_rise true = refl
no_rise false = refl

-- ---- from one tick to the next

was_calm : (low : Line) (n m : ℕ) (b : Bool) → was_low low n ≡ b → ((u : ℕ) → n ≤ u → u < n + m → low u ≡ b) → was_low low (n + m) ≡ b
was_calm low n zero b w q = ap (was_low low) (let x : n + zero ≡ n = omega arith in x) ∙ w
was_calm low n (suc m) b w q = ap (was_low low) (let x : n + suc m ≡ n + m + 1 = omega arith in x) ∙ was_now low (n + m) ∙ q (n + m) (omega arith) (omega arith)

was_alike : (low other : Line) (n : ℕ) → ((u : ℕ) → u < n → other u ≡ low u) → was_low other n ≡ was_low low n
was_alike low other zero q = let x : nat_lt 0 zero ≡ false = grind (arith, nat_tests) in rw x refl
was_alike low other (suc n) q = ap (λ b. nat_lt 0 (suc n) && b) (q (suc n - 1) (omega arith))

module _ (win : Windows) (ok : AreWindows win) where
  still_at : (low : Line) (n : ℕ) (b : Bool) (place : ReceiverState) (begin fall : ℕ) (bits : List Bool) → StandsInBy win low n place begin fall bits → ((w : ℕ) → wake_of_by win (hears_by place begin fall bits) ≡ Some w → n < w)
      → hear_at_by win place n false false b (hears_by place begin fall bits) ≡ reported_so (hears_by place begin fall bits) Nothing
  unfolding StandsInBy
  still_at low n b Rest begin fall bits s w = sym (rw (s.no_begin, s.no_fall, s.no_bits) refl)
  still_at low n b StartLow begin fall bits s w =
      ap (λ c. if c then reported_so (starts n false) (Ended BadStart) else reported_so (hears_by StartLow begin fall bits) Nothing)
      (let l = w (begin + (win.start_low.most + 1)) refl in let x : nat_lt (begin + win.start_low.most) n ≡ false = grind (arith, nat_tests) in x)
  still_at low n b StartHigh begin fall bits s w =
      ap (λ c. if c then reported_so (starts n false) (Ended BadStart) else reported_so (hears_by StartHigh begin fall bits) Nothing)
      (let l = w (begin + (win.start_total.most + 1)) refl in let x : nat_lt (begin + win.start_total.most) n ≡ false = grind (arith, nat_tests) in x)
  still_at low n b Unsampled begin fall bits s w =
      ap (λ c. if c then sample_as (last_ending bits) (not b) (hears_by Unsampled begin fall bits) else reported_so (hears_by Unsampled begin fall bits) Nothing)
      (let l = w (fall + sample_at) refl in let x : (n == fall + sample_at) ≡ false = grind (arith, nat_tests) in x)
  still_at low n b Sampled begin fall bits s w =
      ap (λ c. if c then reported_so (starts n false) (Ended Silent) else reported_so (hears_by Sampled begin fall bits) Nothing)
      (let l = w (fall + (win.bit_total.most + 1)) refl in let x : nat_lt (fall + win.bit_total.most) n ≡ false = grind (arith, nat_tests) in x)

  pub heard_same : (low : Line) (n : ℕ) (b : Bool) → ((w : ℕ) → wake_of_by win (hears_with win low n) ≡ Some w → n < w) → hear_in_by win n b b (hears_with win low n) ≡ reported_so (hears_with win low n) Nothing
  heard_same low n b w =
      ap (λ c. hear_at_by win h.place n c (not b && b) b h) (no_fall b) ∙ ap (λ c. hear_at_by win h.place n false c b h) (no_rise b)
      ∙ still_at low n b h.place h.begin h.fall h.bits (stands_at win ok low n) w
    where
      h : Hears
      h = hears_with win low n

  calm : (low : Line) (n m : ℕ) (b : Bool) → was_low low n ≡ b → ((u : ℕ) → n ≤ u → u < n + m → low u ≡ b) → ((w : ℕ) → wake_of_by win (hears_with win low n) ≡ Some w → n + m ≤ w) → hears_with win low (n + m) ≡ hears_with win low n
  unfolding hears_with
  calm low n zero b w q k = ap (hears_with win low) (let x : n + zero ≡ n = omega arith in x)
  calm low n (suc m) b w q k =
      let before : hears_with win low (n + m) ≡ hears_with win low n = calm low n m b w (λ u a c. q u a (omega arith)) (λ v e. let x = k v e in omega (arith, x)) in
      ap (hears_with win low) (let x : n + suc m ≡ suc (n + m) = omega arith in x)
      ∙ ap (λ c. (hear_in_by win (n + m) c (low (n + m)) (hears_with win low (n + m))).state) (was_calm low n m b w (λ u a c. q u a (omega arith)))
      ∙ ap (λ c. (hear_in_by win (n + m) b c (hears_with win low (n + m))).state) (q (n + m) (omega arith) (omega arith))
      ∙ ap (λ (h : Heard). h.state) (heard_same low (n + m) b (λ v e. let x = k v (sym (ap (wake_of_by win) before) ∙ e) in omega (arith, x)))
      ∙ before

  pub calm_to : (low : Line) (n t : ℕ) (b : Bool) → n ≤ t → was_low low n ≡ b → ((u : ℕ) → n ≤ u → u < t → low u ≡ b) → ((w : ℕ) → wake_of_by win (hears_with win low n) ≡ Some w → t ≤ w)
      → (hears_with win low t ≡ hears_with win low n) × (was_low low t ≡ b)
  calm_to low n t b l w q k =
      let e : n + (t - n) ≡ t = omega arith in (
        ap (hears_with win low) (sym e) ∙ calm low n (t - n) b w (λ u a c. q u a (omega (arith, c, l))) (λ v f. let x = k v f in omega (arith, x, l)),
        ap (was_low low) (sym e) ∙ was_calm low n (t - n) b w (λ u a c. q u a (omega (arith, c, l))),
      )

  -- what a tick leads to on a line that goes on as it was told
  pub follows_so : (h new : Hears) (was is_low : Bool) (t : ℕ) (reported : Told) → reported_so new reported ≡ hear_in_by win t was is_low h
      → (low : Line) (before : ℕ) → h ≡ kept_with_before win low before → was ≡ was_low low before → before ≤ t → ((u : ℕ) → before ≤ u → u < t → low u ≡ was) → low t ≡ is_low
      → ((w : ℕ) → wake_of_by win h ≡ Some w → t ≤ w) → (new ≡ kept_with win low t) × (reported ≡ reported_with_at win low t)
  unfolding hears_with
  follows_so h new was is_low t reported e low before keeps level from quiet edge wake =
      let is : h ≡ hears_with win low before = keeps ∙ before_heard win ok low before in
      let c = calm_to low before t was from (sym level) quiet (λ w f. wake w (ap (wake_of_by win) is ∙ f)) in
      let heard : hear_in_by win t (was_low low t) (low t) (hears_with win low t) ≡ reported_so new reported =
      ap (λ b. hear_in_by win t b (low t) (hears_with win low t)) c.1 ∙ ap (λ b. hear_in_by win t was b (hears_with win low t)) edge ∙ ap (hear_in_by win t was is_low) (c.0 ∙ sym is) ∙ sym e in
      (sym (kept_heard win ok low t ∙ ap (λ (x : Heard). x.state) heard), sym (reported_heard win ok low t ∙ ap (λ (x : Heard). x.reported) heard))

  -- before it nothing is reported
  reported_calm : (low : Line) (n t : ℕ) (b : Bool) → was_low low n ≡ b → n ≤ t → ((u : ℕ) → n ≤ u → u ≤ t → low u ≡ b) → ((w : ℕ) → wake_of_by win (hears_with win low n) ≡ Some w → t < w) → reported_with_at win low t ≡ Nothing
  reported_calm low n t b w l q k =
      let c = calm_to low n t b l w (λ u a d. q u a (omega arith)) (λ v e. let x = k v e in omega (arith, x)) in
      reported_heard win ok low t
      ∙ ap (λ x. (hear_in_by win t x (low t) (hears_with win low t)).reported) c.1 ∙ ap (λ x. (hear_in_by win t b x (hears_with win low t)).reported) (q t l (omega arith))
      ∙ ap (λ (x : Heard). x.reported) (heard_same low t b (λ v e. k v (ap (wake_of_by win) (sym c.0) ∙ e)))

  pub once_so : (h : Hears) (was : Bool) (t : ℕ) (low : Line) (before : ℕ) → h ≡ kept_with_before win low before → was ≡ was_low low before → ((u : ℕ) → before ≤ u → u < t → low u ≡ was)
      → ((w : ℕ) → wake_of_by win h ≡ Some w → t ≤ w) → (u : ℕ) → before ≤ u → u < t → reported_with_at win low u ≡ Nothing
  once_so h was t low before keeps level quiet wake u a b =
      reported_calm low before u was (sym level) a (λ v c d. quiet v c (omega arith)) (λ w e. let x = wake w (ap (wake_of_by win) (keeps ∙ before_heard win ok low before) ∙ e) in omega (arith, x))

  -- who stood on a line stands on it later, where it goes on without an edge up to the wake
  pub stood_calm : (h : Hears) (was : Bool) (low : Line) (before t : ℕ) → h ≡ kept_with_before win low before → was ≡ was_low low before → before ≤ t → ((u : ℕ) → before ≤ u → u < t → low u ≡ was)
      → ((w : ℕ) → wake_of_by win h ≡ Some w → t ≤ w) → (h ≡ kept_with_before win low t) × (was ≡ was_low low t)
  stood_calm h was low before t keeps level from quiet wake =
      let is : h ≡ hears_with win low before = keeps ∙ before_heard win ok low before in
      let c = calm_to low before t was from (sym level) quiet (λ w f. wake w (ap (wake_of_by win) is ∙ f)) in
      (is ∙ sym c.0 ∙ sym (before_heard win ok low t), sym c.1)

  -- ---- how many wakes are left

  fewer_at : (t : ℕ) (b : Bool) (place : ReceiverState) (begin fall : ℕ) (bits : List Bool) → wake_of_by win (hears_by place begin fall bits) ≡ Some t
      → wakes_left (hear_at_by win place t false false b (hears_by place begin fall bits)).state.place < wakes_left place
  fewer_at t b Rest begin fall bits e = cc
  fewer_at t b StartLow begin fall bits e =
      let is : begin + (win.start_low.most + 1) ≡ t = cc in
      let x : nat_lt (begin + win.start_low.most) t ≡ true = grind (arith, nat_tests) in
      let y : wakes_left (hear_at_by win StartLow t false false b (hears_by StartLow begin fall bits)).state.place ≡ 0 =
      ap (λ c. wakes_left (if c then reported_so (starts t false) (Ended BadStart) else reported_so (hears_by StartLow begin fall bits) Nothing).state.place) x in omega (arith, y)
  fewer_at t b StartHigh begin fall bits e =
      let is : begin + (win.start_total.most + 1) ≡ t = cc in
      let x : nat_lt (begin + win.start_total.most) t ≡ true = grind (arith, nat_tests) in
      let y : wakes_left (hear_at_by win StartHigh t false false b (hears_by StartHigh begin fall bits)).state.place ≡ 0 =
      ap (λ c. wakes_left (if c then reported_so (starts t false) (Ended BadStart) else reported_so (hears_by StartHigh begin fall bits) Nothing).state.place) x in omega (arith, y)
  fewer_at t b Unsampled begin fall bits e =
      let is : fall + sample_at ≡ t = cc in
      let x : (t == fall + sample_at) ≡ true = grind (arith, nat_tests) in
      let y : wakes_left (hear_at_by win Unsampled t false false b (hears_by Unsampled begin fall bits)).state.place ≡ wakes_left (sample_as (last_ending bits) (not b) (hears_by Unsampled begin fall bits)).state.place =
      ap (λ c. wakes_left (if c then sample_as (last_ending bits) (not b) (hears_by Unsampled begin fall bits) else reported_so (hears_by Unsampled begin fall bits) Nothing).state.place) x in
      let z = by_last (last_ending bits) in omega (arith, y, z)
    where
      by_last : (last : Option Ending) → wakes_left (sample_as last (not b) (hears_by Unsampled begin fall bits)).state.place < 2
      by_last None = omega arith
      by_last (Some x) = omega arith
  fewer_at t b Sampled begin fall bits e =
      let is : fall + (win.bit_total.most + 1) ≡ t = cc in
      let x : nat_lt (fall + win.bit_total.most) t ≡ true = grind (arith, nat_tests) in
      let y : wakes_left (hear_at_by win Sampled t false false b (hears_by Sampled begin fall bits)).state.place ≡ 0 =
      ap (λ c. wakes_left (if c then reported_so (starts t false) (Ended Silent) else reported_so (hears_by Sampled begin fall bits) Nothing).state.place) x in omega (arith, y)

  pub fewer_so : (h new : Hears) (was is_low : Bool) (t : ℕ) (reported : Told) → reported_so new reported ≡ hear_in_by win t was is_low h → wake_of_by win h ≡ Some t → is_low ≡ was → wakes_left new.place < wakes_left h.place
  fewer_so h new was is_low t reported e wake level =
      let made : reported_so new reported ≡ hear_at_by win h.place t false false was h =
      e ∙ ap (λ c. hear_in_by win t was c h) level
      ∙ ap (λ c. hear_at_by win h.place t c (not was && was) was h) (no_fall was) ∙ ap (λ c. hear_at_by win h.place t false c was h) (no_rise was) in
      subst (λ (x : Heard). wakes_left x.state.place < wakes_left h.place) (sym made) (fewer_at t was h.place h.begin h.fall h.bits wake)

  -- ---- a second tick at one instant

  -- an ending that a microsecond without an edge reports
  late_at : (n : ℕ) (b now : Bool) (ending : Ending) (place : ReceiverState) (begin fall : ℕ) (bits : List Bool) → (hear_at_by win place n false false b (hears_by place begin fall bits)).reported ≡ Ended ending
      → (falls rises : Bool) → (hear_at_by win place n false false b (hears_by place begin fall bits)).state ≡ rest
      × ((hear_at_by win place n falls rises now (hears_by place begin fall bits)).state ≡ starts n falls)
  late_at n b now ending Rest begin fall bits e falls rises = let x : Nothing ≡ Ended ending = e in cc
  late_at n b now ending StartLow begin fall bits e falls rises = by_late (nat_lt (begin + win.start_low.most) n) refl e
    where
      by_late : (c : Bool) → nat_lt (begin + win.start_low.most) n ≡ c → (if c then reported_so (starts n false) (Ended BadStart) else reported_so (hears_by StartLow begin fall bits) Nothing).reported ≡ Ended ending
          → ((if c then reported_so (starts n false) (Ended BadStart) else reported_so (hears_by StartLow begin fall bits) Nothing).state ≡ rest)
          × ((if c then reported_so (starts n falls) (Ended BadStart)
          else if rises then (if nat_lt n (begin + win.start_low.least) then reported_so rest (Ended BadStart) else reported_so (hears_by StartHigh begin fall bits) Nothing) else reported_so (hears_by StartLow begin fall bits) Nothing).state ≡ starts n falls)
      by_late true k f = (refl, refl)
      by_late false k f = let x : Nothing ≡ Ended ending = f in cc
  late_at n b now ending StartHigh begin fall bits e falls rises = by_late (nat_lt (begin + win.start_total.most) n) refl e
    where
      by_late : (c : Bool) → nat_lt (begin + win.start_total.most) n ≡ c → (if c then reported_so (starts n false) (Ended BadStart) else reported_so (hears_by StartHigh begin fall bits) Nothing).reported ≡ Ended ending
          → ((if c then reported_so (starts n false) (Ended BadStart) else reported_so (hears_by StartHigh begin fall bits) Nothing).state ≡ rest)
          × ((if c then reported_so (starts n falls) (Ended BadStart)
          else if falls then (if nat_lt n (begin + win.start_total.least) then reported_so rest (Ended BadStart) else reported_so (hears_by Unsampled begin n bits) Nothing) else reported_so (hears_by StartHigh begin fall bits) Nothing).state ≡ starts n falls)
      by_late true k f = (refl, refl)
      by_late false k f = let x : Nothing ≡ Ended ending = f in cc
  late_at n b now ending Unsampled begin fall bits e falls rises = absurd (by_time (n == fall + sample_at) e)
    where
      by_last : (last : Option Ending) → (sample_as last (not b) (hears_by Unsampled begin fall bits)).reported ≡ Ended ending → ⊥
      by_last None k = cc
      by_last (Some x) k = cc

      by_time : (c : Bool) → (if c then sample_as (last_ending bits) (not b) (hears_by Unsampled begin fall bits) else reported_so (hears_by Unsampled begin fall bits) Nothing).reported ≡ Ended ending → ⊥
      by_time true k = by_last (last_ending bits) k
      by_time false k = cc
  late_at n b now ending Sampled begin fall bits e falls rises = by_late (nat_lt (fall + win.bit_total.most) n) refl e
    where
      by_late : (c : Bool) → nat_lt (fall + win.bit_total.most) n ≡ c → (if c then reported_so (starts n false) (Ended Silent) else reported_so (hears_by Sampled begin fall bits) Nothing).reported ≡ Ended ending
          → ((if c then reported_so (starts n false) (Ended Silent) else reported_so (hears_by Sampled begin fall bits) Nothing).state ≡ rest)
          × ((if c then reported_so (starts n falls) (Ended Silent)
          else if falls then (if nat_lt n (fall + win.bit_total.least) then reported_so rest (Ended Short) else reported_so (hears_by Unsampled begin n bits) Nothing) else reported_so (hears_by Sampled begin fall bits) Nothing).state ≡ starts n falls)
      by_late true k f = (refl, refl)
      by_late false k f = let x : Nothing ≡ Ended ending = f in cc

  -- what is heard before n goes by the line before n
  hears_alike : (low other : Line) (n : ℕ) → ((u : ℕ) → u < n → other u ≡ low u) → hears_with win other n ≡ hears_with win low n
  unfolding hears_with
  hears_alike low other zero q = refl
  hears_alike low other (suc n) q =
      ap (λ c. (hear_in_by win n c (other n) (hears_with win other n)).state) (was_alike low other n (λ u l. q u (omega arith)))
      ∙ ap (λ c. (hear_in_by win n (was_low low n) c (hears_with win other n)).state) (q n (omega arith))
      ∙ ap (λ h. (hear_in_by win n (was_low low n) (low n) h).state) (hears_alike low other n (λ u l. q u (omega arith)))

  pub again_so : (h new : Hears) (was is_low : Bool) (t : ℕ) (reported : Told) → reported_so new reported ≡ hear_in_by win t was is_low h
      → (low other : Line) (ending : Ending) → h ≡ kept_with win low t → was ≡ low t → low t ≡ was_low low t → reported_with_at win low t ≡ Ended ending
      → ((u : ℕ) → u < t → other u ≡ low u) → other t ≡ is_low → (new ≡ kept_with win other t) × (reported ≡ Nothing)
  unfolding hears_with
  again_so h new was is_low t reported e low other ending keeps level same ended alike edge =
      (ap (λ (x : Heard). x.state) made ∙ sym there, ap (λ (x : Heard). x.reported) made)
    where
      g : Hears
      g = hears_with win low t

      b : Bool
      b = was_low low t

      plain : hear_in_by win t (was_low low t) (low t) (hears_with win low t) ≡ hear_at_by win (hears_with win low t).place t false false (was_low low t) (hears_with win low t)
      plain = ap (λ c. hear_in_by win t (was_low low t) c (hears_with win low t)) same
          ∙ ap (λ c. hear_at_by win (hears_with win low t).place t c (not (was_low low t) && was_low low t) (was_low low t) (hears_with win low t)) (no_fall (was_low low t))
          ∙ ap (λ c. hear_at_by win (hears_with win low t).place t false c (was_low low t) (hears_with win low t)) (no_rise (was_low low t))

      late : ((hear_at_by win (hears_with win low t).place t false false (was_low low t) (hears_with win low t)).state ≡ rest)
          × ((hear_at_by win (hears_with win low t).place t (is_low && not (was_low low t)) (not is_low && was_low low t) is_low (hears_with win low t)).state ≡ starts t (is_low && not (was_low low t)))
      late = late_at t (was_low low t) is_low ending (hears_with win low t).place (hears_with win low t).begin (hears_with win low t).fall (hears_with win low t).bits
          (ap (λ (x : Heard). x.reported) (sym plain) ∙ sym (reported_heard win ok low t) ∙ ended) (is_low && not (was_low low t)) (not is_low && was_low low t)

      resting : h ≡ rest
      resting = keeps ∙ kept_heard win ok low t ∙ ap (λ (x : Heard). x.state) plain ∙ late.0

      made : reported_so new reported ≡ reported_so (starts t (is_low && not (was_low low t))) Nothing
      made = e ∙ ap (hear_in_by win t was is_low) resting ∙ ap (λ c. reported_so (starts t (is_low && not c)) Nothing) (level ∙ same)

      there : kept_with win other t ≡ starts t (is_low && not (was_low low t))
      there = kept_heard win ok other t
          ∙ ap (λ c. (hear_in_by win t c (other t) (hears_with win other t)).state) (was_alike low other t alike)
          ∙ ap (λ c. (hear_in_by win t (was_low low t) c (hears_with win other t)).state) edge
          ∙ ap (λ k. (hear_in_by win t (was_low low t) is_low k).state) (hears_alike low other t alike)
          ∙ late.1

  -- ---- the wake

  reported_quiet : (low : Line) (n t : ℕ) (b : Bool) → was_low low n ≡ b → n ≤ t → ((u : ℕ) → n ≤ u → low u ≡ b) → ((w : ℕ) → wake_of_by win (hears_with win low n) ≡ Some w → t ≤ w)
      → reported_with_at win low t ≡ (hear_at_by win (hears_with win low n).place t false false b (hears_with win low n)).reported
  reported_quiet low n t b w l q k =
      let c = calm_to low n t b l w (λ u a d. q u a) k in
      reported_heard win ok low t
      ∙ ap (λ x. (hear_in_by win t x (low t) (hears_with win low t)).reported) c.1 ∙ ap (λ x. (hear_in_by win t b x (hears_with win low t)).reported) (q t l) ∙ ap (λ h. (hear_in_by win t b b h).reported) c.0
      ∙ ap (λ x. (hear_at_by win (hears_with win low n).place t x (not b && b) b (hears_with win low n)).reported) (no_fall b)
      ∙ ap (λ x. (hear_at_by win (hears_with win low n).place t false x b (hears_with win low n)).reported) (no_rise b)

  reported_before : (low : Line) (n t : ℕ) (b : Bool) → was_low low n ≡ b → n ≤ t → ((u : ℕ) → n ≤ u → low u ≡ b) → ((w : ℕ) → wake_of_by win (hears_with win low n) ≡ Some w → t < w) → reported_with_at win low t ≡ Nothing
  reported_before low n t b w l q k =
      let c = calm_to low n t b l w (λ u a d. q u a) (λ v e. let x = k v e in omega (arith, x)) in
      reported_heard win ok low t
      ∙ ap (λ x. (hear_in_by win t x (low t) (hears_with win low t)).reported) c.1 ∙ ap (λ x. (hear_in_by win t b x (hears_with win low t)).reported) (q t l)
      ∙ ap (λ (x : Heard). x.reported) (heard_same low t b (λ v e. k v (ap (wake_of_by win) (sym c.0) ∙ e)))

  -- the wake reports something, and is not past
  pub record WakesNow (n : ℕ) (b : Bool) (place : ReceiverState) (begin fall : ℕ) (bits : List Bool) (w : ℕ) : Type 0 where
    pub from : n ≤ w
    pub reports : (hear_at_by win place w false false b (hears_by place begin fall bits)).reported ≢ Nothing

  pub wakes_now : (low : Line) (n : ℕ) (b : Bool) (place : ReceiverState) (begin fall : ℕ) (bits : List Bool) → StandsInBy win low n place begin fall bits → (w : ℕ) → wake_of_by win (hears_by place begin fall bits) ≡ Some w → WakesNow n b place begin fall bits w
  unfolding StandsInBy
  wakes_now low n b Rest begin fall bits s w e = cc
  wakes_now low n b StartLow begin fall bits s w e =
      let is : begin + (win.start_low.most + 1) ≡ w = cc in
      record {
        from = omega (arith, s.early, is);
        reports = λ k. let x : nat_lt (begin + win.start_low.most) w ≡ true = grind (arith, nat_tests) in
            let y : Ended BadStart ≡ Nothing = sym (ap (λ c. (if c then reported_so (starts w false) (Ended BadStart) else reported_so (hears_by StartLow begin fall bits) Nothing).reported) x) ∙ k in cc;
      }
  wakes_now low n b StartHigh begin fall bits s w e =
      let is : begin + (win.start_total.most + 1) ≡ w = cc in
      record {
        from = omega (arith, s.early, is);
        reports = λ k. let x : nat_lt (begin + win.start_total.most) w ≡ true = grind (arith, nat_tests) in
            let y : Ended BadStart ≡ Nothing = sym (ap (λ c. (if c then reported_so (starts w false) (Ended BadStart) else reported_so (hears_by StartHigh begin fall bits) Nothing).reported) x) ∙ k in cc;
      }
  wakes_now low n b Unsampled begin fall bits s w e =
      let is : fall + sample_at ≡ w = cc in
      record {
        from = omega (arith, s.early, is);
        reports = λ k. let x : (w == fall + sample_at) ≡ true = grind (arith, nat_tests) in
            by_last (last_ending bits) (sym (ap (λ c. (if c then sample_as (last_ending bits) (not b) (hears_by Unsampled begin fall bits) else reported_so (hears_by Unsampled begin fall bits) Nothing).reported) x) ∙ k);
      }
    where
      by_last : (last : Option Ending) → (sample_as last (not b) (hears_by Unsampled begin fall bits)).reported ≡ Nothing → ⊥
      by_last None k = cc
      by_last (Some x) k = cc
  wakes_now low n b Sampled begin fall bits s w e =
      let is : fall + (win.bit_total.most + 1) ≡ w = cc in
      record {
        from = omega (arith, s.early, is);
        reports = λ k. let x : nat_lt (fall + win.bit_total.most) w ≡ true = grind (arith, nat_tests) in
            let y : Ended Silent ≡ Nothing = sym (ap (λ c. (if c then reported_so (starts w false) (Ended Silent) else reported_so (hears_by Sampled begin fall bits) Nothing).reported) x) ∙ k in cc;
      }

  -- a wake is not past
  pub wake_late : (h : Hears) (low : Line) (n w : ℕ) → h ≡ kept_with_before win low n → wake_of_by win h ≡ Some w → n ≤ w
  wake_late h low n w keeps e =
      (wakes_now low n false (hears_with win low n).place (hears_with win low n).begin (hears_with win low n).fall (hears_with win low n).bits (stands_at win ok low n) w (ap (wake_of_by win) (sym (keeps ∙ before_heard win ok low n)) ∙ e)).from

  pub wakes_so : (h : Hears) (was : Bool) (low : Line) (t : ℕ) → h ≡ kept_with_before win low t → was ≡ was_low low t → ((u : ℕ) → t ≤ u → low u ≡ was) → IsNextReportedBy win low t (wake_of_by win h)
  wakes_so h was low t keeps level quiet = by_wake (wake_of_by win h) refl
    where
      is : h ≡ hears_with win low t
      is = keeps ∙ before_heard win ok low t

      by_wake : (o : Option ℕ) → wake_of_by win h ≡ o → IsNextReportedBy win low t o
      by_wake None e = λ u l. reported_before low t u was (sym level) l quiet (λ w k. let x : None ≡ Some w = sym e ∙ ap (wake_of_by win) is ∙ k in cc)
      by_wake (Some w) e =
          let s = wakes_now low t was (hears_with win low t).place (hears_with win low t).begin (hears_with win low t).fall (hears_with win low t).bits (stands_at win ok low t) w (ap (wake_of_by win) (sym is) ∙ e) in
          let only : (v : ℕ) → wake_of_by win (hears_with win low t) ≡ Some v → w ≡ v = λ v k. let x : Some w ≡ Some v = sym e ∙ ap (wake_of_by win) is ∙ k in cc in (
            s.from,
            λ k. s.reports (sym (reported_quiet low t w was (sym level) s.from quiet (λ v f. let x = only v f in omega (arith, x))) ∙ k),
            λ u a b. reported_before low t u was (sym level) a quiet (λ v f. let x = only v f in omega (arith, x, b)),
          )

  -- ---- the line that is never low

  hears_empty : (n : ℕ) → hears_with win (λ u. false) n ≡ rest
  unfolding hears_with
  hears_empty zero = refl
  hears_empty (suc n) = ap (λ h. (hear_in_by win n (was_low (λ u. false) n) false h).state) (hears_empty n)

  pub empty_kept : (t : ℕ) → rest ≡ kept_with win (λ u. false) t
  empty_kept t = sym (kept_heard win ok (λ u. false) t ∙ hears_empty (suc t))

  -- ---- where a receiver stands

  pub stands_so : (h : Hears) (is_low : Bool) (shown : Standing) → shown ≡ standing_by h is_low → (low : Line) (t : ℕ) → h ≡ kept_with win low t → is_low ≡ low t → shown ≡ standing_with win low t
  stands_so h is_low shown e low t keeps level =
      e ∙ ap (λ k. standing_by k is_low) keeps ∙ ap (standing_by (kept_with win low t)) level ∙ standings_are_kept win ok low t

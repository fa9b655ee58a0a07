-- Up to the next edge: what the wakes of a monitor's receiver lead to, and what they report.
use Rattle.std.proofs.Common.{◌≡◌, ℕ, suc, ◌+◌, ◌==◌, ◌<◌, ◌≤◌, Bool, true, false, not, nat_lt, if◌then◌else◌, List, [], ◌∷◌, ◌++◌, append-nil, Option, Some, None, option_map, refl, arith, ap, ◌∙◌, sym}
use Rattle.std.specs.Option.{option_to_list, option_or}
use Rattle.std.proofs.lemmas.Bool.Decides.{nat_tests}
use Rattle.line_wave.specs.declared.Edge.{Edge}
use Rattle.line_wave.specs.Line.{Line, was_low}
use Rattle.line_frames.specs.declared.Ending.{Ending}
use Rattle.line_frames.specs.declared.Ending.TheVariants.{Silent, BadStart}
use Rattle.line_reading.specs.declared.receiver.ReceiverState.{ReceiverState}
use Rattle.line_reading.specs.declared.receiver.ReceiverState.TheVariants.{Rest, StartLow, StartHigh, Unsampled, Sampled}
use Rattle.line_reading.specs.declared.receiver.Told.{Told}
use Rattle.line_reading.specs.declared.receiver.Told.TheVariants.{Nothing, Bit, Last, Ended}
use Rattle.line_reading.specs.declared.times.Windows.{Windows}
use Rattle.line_reading.specs.Windows.{AreWindows, sample_at, standard}
use Rattle.line_reading.specs.Reading.{last_ending}
use Rattle.line_reading.specs.Readings.{Listed}
use Rattle.line_reading.specs.Hears.{Hears, Heard, reported_so, rest, starts, sample_as, hear_at_by, hear_in_by, wake_of_by, hears_by}
use Rattle.line_reading.specs.Kept.{kept_with_before}
use Rattle.line_reading.specs.Reports.{running_by, ended_of}
use Rattle.capture_monitor.proofs.ReadBy.{stays, hearing, wake_after, standard_ended, standard_readings}
use Rattle.line_frames.specs.declared.Reading.{Reading}
use Rattle.line_reading.specs.Hears.{heard_by}
use Rattle.line_reading.specs.Reports.{listed_as}
use Rattle.capture_monitor.specs.declared.monitor.Monitor.{Monitor as Watcher}
use Rattle.capture_monitor.specs.Monitor.{Microsecond, heard_at, woken_at, after_wake, woken_again, after_wakes, IsStill, HeardBeforeBy, IsCalm, FollowsEdge, FollowsEdgeBy, FollowsEnd, FollowsEndBy}
use Rattle.capture_monitor.specs.ReadBy.{ended_before_by, readings_by}

module _ (win : Windows) (ok : AreWindows win) where
  -- ---- what a wake leads to

  heard_still : (t : ℕ) (b : Bool) (h : Hears) → hear_in_by win t b b h ≡ hear_at_by win h.place t false false b h
  heard_still t true h = refl
  heard_still t false h = refl

  -- to rest, with a reading that ends, or to the slot's second half
  data Woke (h : Hears) (b : Bool) (w : ℕ) : Type 0 where
    Over : (reported : Told) → hear_in_by win w b b h ≡ reported_so rest reported → (x : Listed) → ended_of reported w (running_by h w) ≡ Some x → Woke h b w
    Bitwise : (next : Hears) → (slot : ℕ) → (value : Bool) → hear_in_by win w b b h ≡ reported_so next (Bit slot value) → next.place ≡ Sampled → Woke h b w

  woke : (b : Bool) (place : ReceiverState) (begin fall : ℕ) (bits : List Bool) (w : ℕ) → wake_of_by win (hears_by place begin fall bits) ≡ Some w → Woke (hears_by place begin fall bits) b w
  woke b Rest begin fall bits w e = cc
  woke b StartLow begin fall bits w e =
      let is : begin + (win.start_low.most + 1) ≡ w = cc in
      let late : nat_lt (begin + win.start_low.most) w ≡ true = grind (arith, nat_tests) in
      Over (Ended BadStart)
      (heard_still w b (hears_by StartLow begin fall bits)
      ∙ ap (λ c. if c then reported_so (starts w false) (Ended BadStart) else reported_so (hears_by StartLow begin fall bits) Nothing) late) _ refl
  woke b StartHigh begin fall bits w e =
      let is : begin + (win.start_total.most + 1) ≡ w = cc in
      let late : nat_lt (begin + win.start_total.most) w ≡ true = grind (arith, nat_tests) in
      Over (Ended BadStart)
      (heard_still w b (hears_by StartHigh begin fall bits)
      ∙ ap (λ c. if c then reported_so (starts w false) (Ended BadStart) else reported_so (hears_by StartHigh begin fall bits) Nothing) late) _ refl
  woke b Unsampled begin fall bits w e =
      let is : fall + sample_at ≡ w = cc in
      let now : (w == fall + sample_at) ≡ true = grind (arith, nat_tests) in
      by_last (last_ending bits)
      (heard_still w b (hears_by Unsampled begin fall bits)
      ∙ ap (λ c. if c then sample_as (last_ending bits) (not b) (hears_by Unsampled begin fall bits) else reported_so (hears_by Unsampled begin fall bits) Nothing) now)
    where
      by_last : (last : Option Ending) → hear_in_by win w b b (hears_by Unsampled begin fall bits) ≡ sample_as last (not b) (hears_by Unsampled begin fall bits) → Woke (hears_by Unsampled begin fall bits) b w
      by_last None h = Bitwise _ _ _ h refl
      by_last (Some ending) h = Over (Last (not b) ending) h _ refl
  woke b Sampled begin fall bits w e =
      let is : fall + (win.bit_total.most + 1) ≡ w = cc in
      let late : nat_lt (fall + win.bit_total.most) w ≡ true = grind (arith, nat_tests) in
      Over (Ended Silent)
      (heard_still w b (hears_by Sampled begin fall bits)
      ∙ ap (λ c. if c then reported_so (starts w false) (Ended Silent) else reported_so (hears_by Sampled begin fall bits) Nothing) late) _ refl

  woke_of : (b : Bool) (h : Hears) (w : ℕ) → wake_of_by win h ≡ Some w → Woke h b w
  woke_of b h w e = woke b h.place h.begin h.fall h.bits w e

  -- ---- before an instant

  -- what the first wake leaves: nothing more by then, a reading that ended, or a slot's second half
  data Left (until : ℕ) (b : Bool) (h : Hears) (m : Microsecond) : Type 0 where
    Calm : m ≡ record { state = h; ended = None } → ((w : ℕ) → wake_of_by win h ≡ Some w → until ≤ w) → Left until b h m
    Woken : (w : ℕ) → wake_of_by win h ≡ Some w → w < until → m ≡ heard_at win w b b h → Left until b h m

  left : (until : ℕ) (b : Bool) (h : Hears) → Left until b h (after_wake win until b h)
  left until b h = by_wake (wake_of_by win h) refl
    where
      by_time : (w : ℕ) → wake_of_by win h ≡ Some w → (c : Bool) → nat_lt w until ≡ c → Left until b h (if c then heard_at win w b b h else record { state = h; ended = None })
      by_time w e true k = Woken w e (grind (arith, nat_tests)) refl
      by_time w e false k =
          let late : until ≤ w = grind (arith, nat_tests) in
          Calm refl (λ v f. let x : w ≡ v = same w v (sym e ∙ f) in omega (arith, late, x))
        where
          same : (x y : ℕ) → Some x ≡ Some y → x ≡ y
          same x y f = cc

      by_wake : (o : Option ℕ) → wake_of_by win h ≡ o → Left until b h (woken_at win until b h o)
      by_wake None e = Calm refl (λ w f. let x : None ≡ Some w = sym e ∙ f in cc)
      by_wake (Some w) e = by_time w e (nat_lt w until) refl

  -- a wake that ended a reading leaves the receiver at rest
  rests : (b : Bool) (h : Hears) (w : ℕ) (m : Microsecond) (x : Listed) → wake_of_by win h ≡ Some w → m ≡ heard_at win w b b h → m.ended ≡ Some x → m.state ≡ rest
  rests b h w m x e is ended = by_woke (woke_of b h w e)
    where
      by_woke : Woke h b w → m.state ≡ rest
      by_woke (Over reported heard y some) = ap (λ (k : Microsecond). k.state) is ∙ ap (λ (k : Heard). k.state) heard
      by_woke (Bitwise next slot value heard place) =
          let none : m.ended ≡ None = ap (λ (k : Microsecond). k.ended) is ∙ ap (λ (k : Heard). ended_of k.reported w (running_by h w)) heard in
          let no : None ≡ Some x = sym none ∙ ended in cc

  -- after a second wake none comes before the instant
  done_after : (until : ℕ) (b : Bool) (next : Hears) → next.place ≡ Sampled → (w : ℕ) → wake_of_by win (after_wake win until b next).state ≡ Some w → until ≤ w
  done_after until b next place w e = by_left (left until b next)
    where
      by_woke : (v : ℕ) → (after_wake win until b next) ≡ heard_at win v b b next → wake_of_by win next ≡ Some v → Woke next b v → until ≤ w
      by_woke v is f (Over reported heard x some) =
          let at_rest : (after_wake win until b next).state ≡ rest = ap (λ (k : Microsecond). k.state) is ∙ ap (λ (k : Heard). k.state) heard in
          let no : None ≡ Some w = sym (ap (wake_of_by win) at_rest) ∙ e in cc
      by_woke v is f (Bitwise other slot value heard sampled) = absurd (not_bit next.place next.begin next.fall next.bits place heard f)
        where
          not_bit : (p : ReceiverState) (begin fall : ℕ) (bits : List Bool) → p ≡ Sampled → hear_in_by win v b b (hears_by p begin fall bits) ≡ reported_so other (Bit slot value) → wake_of_by win (hears_by p begin fall bits) ≡ Some v → ⊥
          not_bit Sampled begin fall bits q k j =
              let is : fall + (win.bit_total.most + 1) ≡ v = cc in
              let late : nat_lt (fall + win.bit_total.most) v ≡ true = grind (arith, nat_tests) in
              let over : hear_in_by win v b b (hears_by Sampled begin fall bits) ≡ reported_so (starts v false) (Ended Silent) =
              heard_still v b (hears_by Sampled begin fall bits)
              ∙ ap (λ c. if c then reported_so (starts v false) (Ended Silent) else reported_so (hears_by Sampled begin fall bits) Nothing) late in
              let no : Ended Silent ≡ Bit slot value = sym (ap (λ (x : Heard). x.reported) over) ∙ ap (λ (x : Heard). x.reported) k in cc
          not_bit Rest begin fall bits q k j = cc
          not_bit StartLow begin fall bits q k j = cc
          not_bit StartHigh begin fall bits q k j = cc
          not_bit Unsampled begin fall bits q k j = cc

      by_left : Left until b next (after_wake win until b next) → until ≤ w
      by_left (Calm is late) = late w (sym (ap (λ (k : Microsecond). wake_of_by win k.state) is) ∙ e)
      by_left (Woken v f before is) = by_woke v is f (woke_of b next v f)

  again_done : (until : ℕ) (b : Bool) (h : Hears) → (after_wake win until b h).ended ≡ None → (w : ℕ) → wake_of_by win (after_wake win until b (after_wake win until b h).state).state ≡ Some w → until ≤ w
  again_done until b h none w e = by_left (left until b h)
    where
      by_woke : (v : ℕ) → after_wake win until b h ≡ heard_at win v b b h → Woke h b v → until ≤ w
      by_woke v is (Over reported heard x some) =
          let ended : (after_wake win until b h).ended ≡ Some x = ap (λ (k : Microsecond). k.ended) is ∙ ap (λ (k : Heard). ended_of k.reported v (running_by h v)) heard ∙ some in
          let no : None ≡ Some x = sym none ∙ ended in cc
      by_woke v is (Bitwise next slot value heard place) =
          let state : (after_wake win until b h).state ≡ next = ap (λ (k : Microsecond). k.state) is ∙ ap (λ (k : Heard). k.state) heard in
          done_after until b next place w (sym (ap (λ s. wake_of_by win (after_wake win until b s).state) state) ∙ e)

      by_left : Left until b h (after_wake win until b h) → until ≤ w
      by_left (Calm is late) =
          let state : (after_wake win until b h).state ≡ h = ap (λ (k : Microsecond). k.state) is in
          late w (sym (ap (λ s. wake_of_by win (after_wake win until b s).state) state ∙ ap (λ (k : Microsecond). wake_of_by win k.state) is) ∙ e)
      by_left (Woken v f before is) = by_woke v is (woke_of b h v f)

  -- ---- on a line

  -- the line was heard to here, on the way to `until`
  record Came (low : Line) (n until : ℕ) (b : Bool) (m : Microsecond) : Type 0 where
    to : ℕ
    from : n ≤ to
    by : to ≤ until
    kept : m.state ≡ kept_with_before win low to
    level : was_low low to ≡ b
    reported : ended_before_by win low to ≡ ended_before_by win low n ++ option_to_list m.ended

  came : (low : Line) (n until : ℕ) (b : Bool) (h : Hears) → n ≤ until → h ≡ kept_with_before win low n → was_low low n ≡ b → ((u : ℕ) → n ≤ u → u < until → low u ≡ b) → Came low n until b (after_wake win until b h)
  came low n until b h l keeps level q = by_left (left until b h)
    where
      by_left : Left until b h (after_wake win until b h) → Came low n until b (after_wake win until b h)
      by_left (Calm is late) = record {
        to = n;
        from = omega arith;
        by = l;
        kept = ap (λ (k : Microsecond). k.state) is ∙ keeps;
        level = level;
        reported = sym (ap (λ (k : Microsecond). ended_before_by win low n ++ option_to_list k.ended) is ∙ append-nil (ended_before_by win low n));
      }
      by_left (Woken w e before is) =
          let after : n ≤ w = wake_after win ok low h n w keeps e in
          let same : (v : ℕ) → wake_of_by win h ≡ Some v → w ≤ v = λ v f. let x : w ≡ v = one w v (sym e ∙ f) in omega (arith, x) in
          let s = stays win ok low h n w b after keeps level (λ u a c. q u a (omega (arith, c, before))) same in
          let k = hearing win ok low h w b b (sym s.kept) s.level (q w after before) in
          record {
            to = w + 1;
            from = omega (arith, after);
            by = omega (arith, before);
            kept = ap (λ (x : Microsecond). x.state) is ∙ sym k.kept;
            level = k.level;
            reported = k.ended ∙ ap (λ (xs : List Listed). xs ++ option_to_list (heard_at win w b b h).ended) s.ended
                ∙ sym (ap (λ (x : Microsecond). ended_before_by win low n ++ option_to_list x.ended) is);
          }
        where
          one : (x y : ℕ) → Some x ≡ Some y → x ≡ y
          one x y f = cc

  -- it was heard to the instant itself
  pub record Waits (low : Line) (n until : ℕ) (b : Bool) (m : Microsecond) : Type 0 where
    pub kept : m.state ≡ kept_with_before win low until
    pub level : was_low low until ≡ b
    pub reported : ended_before_by win low until ≡ ended_before_by win low n ++ option_to_list m.ended
    pub rests : (x : Listed) → m.ended ≡ Some x → m.state ≡ rest

  rests_after : (until : ℕ) (b : Bool) (h : Hears) (x : Listed) → (after_wake win until b h).ended ≡ Some x → (after_wake win until b h).state ≡ rest
  rests_after until b h x e = by_left (left until b h)
    where
      by_left : Left until b h (after_wake win until b h) → (after_wake win until b h).state ≡ rest
      by_left (Calm is late) = let no : None ≡ Some x = sym (ap (λ (k : Microsecond). k.ended) is) ∙ e in cc
      by_left (Woken w f before is) = rests b h w (after_wake win until b h) x f is e

  no_wake : (h : Hears) (until : ℕ) → h ≡ rest → (w : ℕ) → wake_of_by win h ≡ Some w → until ≤ w
  no_wake h until e w f = let x : None ≡ Some w = sym (ap (wake_of_by win) e) ∙ f in cc

  pub waits : (low : Line) (n until : ℕ) (b : Bool) (h : Hears) → n ≤ until → h ≡ kept_with_before win low n → was_low low n ≡ b → ((u : ℕ) → n ≤ u → u < until → low u ≡ b) → Waits low n until b (after_wakes win until b h)
  waits low n until b h l keeps level q = by_first (after_wake win until b h).ended refl
    where
      first : Came low n until b (after_wake win until b h)
      first = came low n until b h l keeps level q

      by_first : (o : Option Listed) → (after_wake win until b h).ended ≡ o → Waits low n until b (woken_again win until b (after_wake win until b h).state o)
      by_first (Some x) e =
          let c = first in
          let at_rest : (after_wake win until b h).state ≡ rest = rests_after until b h x e in
          let s = stays win ok low (after_wake win until b h).state c.to until b c.by c.kept c.level (λ u a d. q u (omega (arith, a, c.from)) d) (no_wake (after_wake win until b h).state until at_rest) in
          record {
            kept = sym s.kept;
            level = s.level;
            reported = s.ended ∙ c.reported ∙ ap (λ (o : Option Listed). ended_before_by win low n ++ option_to_list o) e;
            rests = λ y f. at_rest;
          }
      by_first None e =
          let c = first in
          let d = came low c.to until b (after_wake win until b h).state c.by c.kept c.level (λ u a g. q u (omega (arith, a, c.from)) g) in
          let s = stays win ok low (after_wake win until b (after_wake win until b h).state).state d.to until b d.by d.kept d.level (λ u a g. q u (omega (arith, a, c.from, d.from)) g) (again_done until b h e) in
          record {
            kept = sym s.kept;
            level = s.level;
            reported = s.ended ∙ d.reported
                ∙ ap (λ (xs : List Listed). xs ++ option_to_list (after_wake win until b (after_wake win until b h).state).ended)
                (c.reported ∙ ap (λ (o : Option Listed). ended_before_by win low n ++ option_to_list o) e ∙ append-nil (ended_before_by win low n));
            rests = λ y f. rests_after until b (after_wake win until b h).state y f;
          }

  -- ---- an edge, and the end

  or_more : (xs : List Listed) (a b : Option Listed) → ((x : Listed) → a ≡ Some x → b ≡ None) → (xs ++ option_to_list a) ++ option_to_list b ≡ xs ++ option_to_list (option_or a b)
  or_more xs None b h = ap (λ (ys : List Listed). ys ++ option_to_list b) (append-nil xs)
  or_more xs (Some x) b h = ap (λ (o : Option Listed). (xs ++ x ∷ []) ++ option_to_list o) (h x refl) ∙ append-nil (xs ++ x ∷ [])

  none_at_rest : (h : Hears) (t : ℕ) (was is : Bool) → h ≡ rest → (heard_at win t was is h).ended ≡ None
  none_at_rest h t was is e = ap (λ k. (heard_at win t was is k).ended) e

  -- the edge itself, after the wakes
  pub record Edges (low : Line) (n t : ℕ) (b is : Bool) (m e : Microsecond) : Type 0 where
    pub kept : kept_with_before win low (t + 1) ≡ e.state
    pub level : was_low low (t + 1) ≡ is
    pub reported : ended_before_by win low (suc t) ≡ ended_before_by win low n ++ option_to_list (option_or m.ended e.ended)

  pub edges : (low : Line) (n t : ℕ) (b is : Bool) (h : Hears) → n ≤ t → h ≡ kept_with_before win low n → was_low low n ≡ b → ((u : ℕ) → n ≤ u → u < t → low u ≡ b) → low t ≡ is
      → Edges low n t b is (after_wakes win t b h) (heard_at win t b is (after_wakes win t b h).state)
  edges low n t b is h l keeps level q now =
      let w = waits low n t b h l keeps level q in
      let k = hearing win ok low (after_wakes win t b h).state t b is w.kept w.level now in
      let same : t + 1 ≡ suc t = omega arith in
      record {
        kept = k.kept;
        level = k.level;
        reported = sym (ap (ended_before_by win low) same) ∙ k.ended
            ∙ ap (λ (xs : List Listed). xs ++ option_to_list (heard_at win t b is (after_wakes win t b h).state).ended) w.reported
            ∙ or_more (ended_before_by win low n) (after_wakes win t b h).ended (heard_at win t b is (after_wakes win t b h).state).ended (λ x e. none_at_rest (after_wakes win t b h).state t b is (w.rests x e));
      }

  -- the end: what was reported, or else what is still kept
  pub finishes : (low : Line) (n t : ℕ) (b : Bool) (h : Hears) → n ≤ t + 1 → h ≡ kept_with_before win low n → was_low low n ≡ b → ((u : ℕ) → n ≤ u → u < t + 1 → low u ≡ b)
      → readings_by win low t ≡ ended_before_by win low n ++ option_to_list (option_or (after_wakes win (t + 1) b h).ended (running_by (after_wakes win (t + 1) b h).state t))
  finishes low n t b h l keeps level q =
      let w = waits low n (t + 1) b h l keeps level q in
      let same : t + 1 ≡ suc t = omega arith in
      ap (λ k. ended_before_by win low (suc t) ++ option_to_list (running_by k t)) (sym (w.kept ∙ ap (kept_with_before win low) same))
      ∙ ap (λ (xs : List Listed). xs ++ option_to_list (running_by (after_wakes win (t + 1) b h).state t)) (sym (ap (ended_before_by win low) same) ∙ w.reported)
      ∙ or_more (ended_before_by win low n) (after_wakes win (t + 1) b h).ended (running_by (after_wakes win (t + 1) b h).state t)
      (λ x e. ap (λ k. running_by k t) (w.rests x e))

  -- ---- a monitor

  map_or : (a b : Option Reading) → option_map listed_as (option_or a b) ≡ option_or (option_map listed_as a) (option_map listed_as b)
  map_or None b = refl
  map_or (Some x) b = refl

  pub edge_reported : (low : Line) (n t : ℕ) (falls : Bool) (old mid noted new : Watcher) (w e o : Option Reading) → HeardBeforeBy win old low n → n ≤ t → IsCalm old low n t → low t ≡ falls
      → (let m : Microsecond = record { state = heard_by mid.receiver.receiver; ended = option_map listed_as w } in m) ≡ after_wakes old.receiver.windows t old.receiver.receiver.is_low (heard_by old.receiver.receiver)
      → mid.receiver.windows ≡ old.receiver.windows → IsStill mid → mid.receiver.receiver.is_low ≡ old.receiver.receiver.is_low
      → noted.receiver.windows ≡ mid.receiver.windows → heard_by noted.receiver.receiver ≡ heard_by mid.receiver.receiver → noted.receiver.receiver.was_low ≡ mid.receiver.receiver.was_low → noted.receiver.receiver.is_low ≡ falls
      → (let m : Microsecond = record { state = heard_by new.receiver.receiver; ended = option_map listed_as e } in m)
      ≡ heard_at noted.receiver.windows t noted.receiver.receiver.was_low noted.receiver.receiver.is_low (heard_by noted.receiver.receiver)
      → new.receiver.windows ≡ noted.receiver.windows → new.receiver.receiver.was_low ≡ noted.receiver.receiver.is_low → new.receiver.receiver.is_low ≡ noted.receiver.receiver.is_low → o ≡ option_or w e
      → HeardBeforeBy win new low (t + 1) × (ended_before_by win low (suc t) ≡ ended_before_by win low n ++ option_to_list (option_map listed_as o))
  edge_reported low n t falls old mid noted new w e o h l calm now waited mid_by still same noted_by keeps was is ticked new_by level after or =
      let mid_win : mid.receiver.windows ≡ win = mid_by ∙ h.windows_are in
      let noted_win : noted.receiver.windows ≡ win = noted_by ∙ mid_win in
      let first : (let m : Microsecond = record { state = heard_by mid.receiver.receiver; ended = option_map listed_as w } in m) ≡ after_wakes win t old.receiver.receiver.is_low (heard_by old.receiver.receiver) =
      waited ∙ ap (λ x. after_wakes x t old.receiver.receiver.is_low (heard_by old.receiver.receiver)) h.windows_are in
      let second : (let m : Microsecond = record { state = heard_by new.receiver.receiver; ended = option_map listed_as e } in m)
      ≡ heard_at win t noted.receiver.receiver.was_low noted.receiver.receiver.is_low (heard_by noted.receiver.receiver) =
      ticked ∙ ap (λ x. heard_at x t noted.receiver.receiver.was_low noted.receiver.receiver.is_low (heard_by noted.receiver.receiver)) noted_win in
      let k = edges low n t old.receiver.receiver.is_low falls (heard_by old.receiver.receiver) l h.stood.keeps (sym h.stood.level ∙ h.still) (λ u a c. calm u a c ∙ h.still) now in
      let state : heard_by mid.receiver.receiver ≡ (after_wakes win t old.receiver.receiver.is_low (heard_by old.receiver.receiver)).state = ap (λ (m : Microsecond). m.state) first in
      let mid_is : noted.receiver.receiver.was_low ≡ old.receiver.receiver.is_low = was ∙ still ∙ same in
      let made : heard_at win t noted.receiver.receiver.was_low noted.receiver.receiver.is_low (heard_by noted.receiver.receiver)
      ≡ heard_at win t old.receiver.receiver.is_low falls (after_wakes win t old.receiver.receiver.is_low (heard_by old.receiver.receiver)).state =
      ap (λ x. heard_at win t x noted.receiver.receiver.is_low (heard_by noted.receiver.receiver)) mid_is ∙ ap (λ x. heard_at win t old.receiver.receiver.is_low x (heard_by noted.receiver.receiver)) is
      ∙ ap (heard_at win t old.receiver.receiver.is_low falls) (keeps ∙ state) in (
        record {
          are = h.are;
          windows_are = new_by ∙ noted_win;
          stood = record { keeps = ap (λ (m : Microsecond). m.state) (second ∙ made) ∙ sym k.kept; level = level ∙ is ∙ sym k.level };
          still = level ∙ sym after;
        },
        k.reported ∙ ap (λ (x : Option Listed). ended_before_by win low n ++ option_to_list (option_or x (heard_at win t old.receiver.receiver.is_low falls (after_wakes win t old.receiver.receiver.is_low (heard_by old.receiver.receiver)).state).ended))
            (sym (ap (λ (m : Microsecond). m.ended) first))
            ∙ ap (λ (x : Option Listed). ended_before_by win low n ++ option_to_list (option_or (option_map listed_as w) x)) (sym (ap (λ (m : Microsecond). m.ended) (second ∙ made)))
            ∙ ap (λ (x : Option Listed). ended_before_by win low n ++ option_to_list x) (sym (map_or w e))
            ∙ ap (λ (x : Option Reading). ended_before_by win low n ++ option_to_list (option_map listed_as x)) (sym or),
      )

  pub end_reported : (low : Line) (n t : ℕ) (old mid : Watcher) (w : Option Reading) → HeardBeforeBy win old low n → n ≤ t + 1 → IsCalm old low n (t + 1)
      → (let m : Microsecond = record { state = heard_by mid.receiver.receiver; ended = option_map listed_as w } in m) ≡ after_wakes old.receiver.windows (t + 1) old.receiver.receiver.is_low (heard_by old.receiver.receiver)
      → readings_by win low t ≡ ended_before_by win low n ++ option_to_list (option_or (option_map listed_as w) (running_by (heard_by mid.receiver.receiver) t))
  end_reported low n t old mid w h l calm waited =
      let first : (let m : Microsecond = record { state = heard_by mid.receiver.receiver; ended = option_map listed_as w } in m) ≡ after_wakes win (t + 1) old.receiver.receiver.is_low (heard_by old.receiver.receiver) =
      waited ∙ ap (λ x. after_wakes x (t + 1) old.receiver.receiver.is_low (heard_by old.receiver.receiver)) h.windows_are in
      finishes low n t old.receiver.receiver.is_low (heard_by old.receiver.receiver) l h.stood.keeps (sym h.stood.level ∙ h.still) (λ u a c. calm u a c ∙ h.still)
      ∙ sym (ap (λ (m : Microsecond). ended_before_by win low n ++ option_to_list (option_or m.ended (running_by m.state t))) first)

  pub calm_reported : (low : Line) (n until : ℕ) (old mid : Watcher) (w : Option Reading) → HeardBeforeBy win old low n → n ≤ until → IsCalm old low n until
      → (let m : Microsecond = record { state = heard_by mid.receiver.receiver; ended = option_map listed_as w } in m) ≡ after_wakes old.receiver.windows until old.receiver.receiver.is_low (heard_by old.receiver.receiver)
      → mid.receiver.windows ≡ old.receiver.windows → IsStill mid → mid.receiver.receiver.is_low ≡ old.receiver.receiver.is_low
      → HeardBeforeBy win mid low until × (ended_before_by win low until ≡ ended_before_by win low n ++ option_to_list (option_map listed_as w))
  calm_reported low n until old mid w h l calm waited mid_by still same =
      let first : (let m : Microsecond = record { state = heard_by mid.receiver.receiver; ended = option_map listed_as w } in m) ≡ after_wakes win until old.receiver.receiver.is_low (heard_by old.receiver.receiver) =
      waited ∙ ap (λ x. after_wakes x until old.receiver.receiver.is_low (heard_by old.receiver.receiver)) h.windows_are in
      let k = waits low n until old.receiver.receiver.is_low (heard_by old.receiver.receiver) l h.stood.keeps (sym h.stood.level ∙ h.still) (λ u a c. calm u a c ∙ h.still) in (
        record {
          are = h.are;
          windows_are = mid_by ∙ h.windows_are;
          stood = record { keeps = ap (λ (m : Microsecond). m.state) first ∙ k.kept; level = still ∙ same ∙ sym k.level };
          still = still;
        },
        k.reported ∙ ap (λ (m : Microsecond). ended_before_by win low n ++ option_to_list m.ended) (sym first),
      )

-- ---- by the standard's windows

pub edge_standard : (old new : Watcher) (e : Edge) (reported : Option Listed) → FollowsEdgeBy standard old e reported new → FollowsEdge old e reported new
edge_standard old new e reported follows = λ low n h l calm now.
    let d = follows low n h l calm now in
    (d.0, sym (standard_ended low (suc e.at)) ∙ d.1 ∙ ap (λ (xs : List Listed). xs ++ option_to_list reported) (standard_ended low n))

pub end_standard : (old : Watcher) (t : ℕ) (reported : Option Listed) → FollowsEndBy standard old t reported → FollowsEnd old t reported
end_standard old t reported follows = λ low n h l calm.
    sym (standard_readings low t) ∙ follows low n h l calm ∙ ap (λ (xs : List Listed). xs ++ option_to_list reported) (standard_ended low n)

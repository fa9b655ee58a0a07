-- The edges that a track makes of what it is told: they are those of a capture, and tell the line as it was sampled.
use Rattle.std.proofs.Common.{◌≡◌, ℕ, ◌+◌, ◌<◌, ◌≤◌, ◌&&◌, not, Bool, true, false, nat_lt, nat_le, if◌then◌else◌, List, [], ◌∷◌, ◌++◌, Some, None, refl, sym, ap, subst, ◌∙◌, arith}
use Rattle.std.specs.Option.{option_to_list}
use Rattle.std.proofs.lemmas.Bool.Decides.{nat_tests}
use Rattle.line_wave.specs.declared.Edge.{Edge}
use Rattle.capture_core.specs.declared.track.Track.{Track}
use Rattle.capture_core.specs.Edges.{AreInTurn, EdgesAreInTurnSooner, EndBy, LevelsStayBefore, level_at}
use Rattle.capture_core.specs.Samples.{Sample, level_in}
use Rattle.capture_core.specs.Track.{Moved, MovesComeThere, differ, last_edge}
use Rattle.capture_core.specs.Recording.{EndsAreRecorded, LevelsAreRecorded, MovesAreRecorded, Records, RecordsAreCaptures, RecordsAreTheLine}

-- edges in turn leave the level before the first one
pub before_turn : LevelsStayBefore
before_turn b from [] h u l = refl
before_turn b from (e ∷ es) h u l = ap (λ c. if c then b else level_at e.low es u) (sooner h.1)
  where
    sooner : from ≤ e.at → nat_lt u e.at ≡ true
    sooner k = grind (arith, nat_tests)

pub sooner_turn : EdgesAreInTurnSooner
sooner_turn b from before [] l h = tt
sooner_turn b from before (e ∷ es) l h = let k = h.1 in (h.0, omega arith, h.2)

-- ---- nothing more is reported

end_level : (at u : ℕ) (was is : Bool) → at ≤ u → level_at was (option_to_list (last_edge (record { at = at; was_low = was; is_low = is }))) u ≡ is
end_level at u was is l = by was is
  where
    past : nat_lt u at ≡ false
    past = grind (arith, nat_tests)

    by : (was is : Bool) → level_at was (option_to_list (last_edge (record { at = at; was_low = was; is_low = is }))) u ≡ is
    by true true = refl
    by false false = refl
    by true false = rw past refl
    by false true = rw past refl

end_turn : (at : ℕ) (was is : Bool) → AreInTurn was at (option_to_list (last_edge (record { at = at; was_low = was; is_low = is })))
end_turn at true true = tt
end_turn at false false = tt
end_turn at true false = (refl, omega arith, tt)
end_turn at false true = (refl, omega arith, tt)

end_ends : (at : ℕ) (was is : Bool) → EndBy at (option_to_list (last_edge (record { at = at; was_low = was; is_low = is })))
end_ends at true true = tt
end_ends at false false = tt
end_ends at true false = (omega arith, tt)
end_ends at false true = (omega arith, tt)

pub records_end : EndsAreRecorded
records_end t = record {
  level = λ u l. end_level t.at u t.was_low t.is_low l;
  quiet = λ b u l. refl;
  turn = end_turn t.at t.was_low t.is_low;
  ends = end_ends t.at t.was_low t.is_low;
  late = omega arith;
}

-- ---- a level

pub records_level : LevelsAreRecorded
records_level t low edges samples end r = record {
  level = λ u l. r.level u l ∙ ap (λ b. level_in (if b then low else t.is_low) samples u) (sym (here u l));
  quiet = λ b u l. ap (λ c. level_in (if c then low else b) samples u) (later u l) ∙ r.quiet b u l;
  turn = r.turn;
  ends = r.ends;
  late = r.late;
}
  where
    here : (u : ℕ) → t.at ≤ u → nat_le t.at u ≡ true
    here u l = grind (arith, nat_tests)

    later : (u : ℕ) → u < t.at → nat_le t.at u ≡ false
    later u l = grind (arith, nat_tests)

-- ---- an instant

turned : (was is : Bool) → differ was is ≡ true → is ≡ not was
turned true true h = cc
turned true false h = refl
turned false true h = refl
turned false false h = cc

same_level : (was is : Bool) → differ was is ≡ false → was ≡ is
same_level true true h = refl
same_level true false h = cc
same_level false true h = cc
same_level false false h = refl

moved_on : (t : Track) (u : ℕ) (edges : List Edge) (samples : List Sample) (end : ℕ) → t.at < u → differ t.was_low t.is_low ≡ true
    → Records (record { at = u; was_low = t.is_low; is_low = t.is_low }) edges samples end → Records t (record { at = t.at; low = t.is_low } ∷ edges) samples end
moved_on t u edges samples end l d r = record {
  level = λ v h. ap (λ b. if b then t.was_low else level_at t.is_low edges v) (past v h) ∙ by v (nat_lt v u) refl;
  quiet = λ b v h. r.quiet b v (omega arith);
  turn = (turned t.was_low t.is_low d, omega arith, sooner_turn t.is_low u (t.at + 1) edges (omega arith) r.turn);
  ends = (let k = r.late in omega arith, r.ends);
  late = let k = r.late in omega arith;
}
  where
    past : (v : ℕ) → t.at ≤ v → nat_lt v t.at ≡ false
    past v h = grind (arith, nat_tests)

    by : (v : ℕ) (c : Bool) → nat_lt v u ≡ c → level_at t.is_low edges v ≡ level_in t.is_low samples v
    by v true h = let k : v < u = grind (arith, nat_tests) in before_turn t.is_low u edges r.turn v k ∙ sym (r.quiet t.is_low v k)
    by v false h = r.level v (grind (arith, nat_tests))

moved_still : (t : Track) (u : ℕ) (edges : List Edge) (samples : List Sample) (end : ℕ) → t.at ≤ u → (t.at < u → differ t.was_low t.is_low ≡ false)
    → Records (record { at = u; was_low = t.was_low; is_low = t.is_low }) edges samples end → Records t edges samples end
moved_still t u edges samples end l d r = record {
  level = λ v h. by v h (nat_lt v u) refl;
  quiet = λ b v h. r.quiet b v (omega arith);
  turn = sooner_turn t.was_low u t.at edges l r.turn;
  ends = r.ends;
  late = let k = r.late in omega arith;
}
  where
    by : (v : ℕ) → t.at ≤ v → (c : Bool) → nat_lt v u ≡ c → level_at t.was_low edges v ≡ level_in t.is_low samples v
    by v h true e =
        let k : v < u = grind (arith, nat_tests) in
        before_turn t.was_low u edges r.turn v k ∙ same_level t.was_low t.is_low (d (omega arith)) ∙ sym (r.quiet t.is_low v k)
    by v h false e = r.level v (grind (arith, nat_tests))

pub moved_at : MovesComeThere
moved_at u t m h = by (nat_lt u t.at) (nat_lt t.at u && differ t.was_low t.is_low) h
  where
    by : (c d : Bool)
        → (if c then None else (if d then Some (record { track = record t { at = u; was_low = t.is_low }; edge = Some (record { at = t.at; low = t.is_low }) }) else Some (record { track = record t { at = u }; edge = None }))) ≡ Some m
        → m.track.at ≡ u
    by true d k = cc
    by false true k =
        let is : record { track = record t { at = u; was_low = t.is_low }; edge = Some (record { at = t.at; low = t.is_low }) } ≡ m = cc in
        sym (ap (λ (x : Moved). x.track.at) is)
    by false false k =
        let is : record { track = record t { at = u }; edge = None } ≡ m = cc in
        sym (ap (λ (x : Moved). x.track.at) is)

pub records_moved : MovesAreRecorded
records_moved u t m edges samples end h r = by (nat_lt u t.at) refl h
  where
    -- it turned at the instant before, or not
    turns : (c : Bool) → (nat_lt t.at u && differ t.was_low t.is_low) ≡ c → t.at ≤ u
        → (if c then Some (record { track = record t { at = u; was_low = t.is_low }; edge = Some (record { at = t.at; low = t.is_low }) }) else Some (record { track = record t { at = u }; edge = None })) ≡ Some m
        → Records t (option_to_list m.edge ++ edges) samples end
    turns true e l k =
        let is : record { track = record t { at = u; was_low = t.is_low }; edge = Some (record { at = t.at; low = t.is_low }) } ≡ m = cc in
        let both = halves (nat_lt t.at u) (differ t.was_low t.is_low) e in
        subst (λ (x : Moved). Records t (option_to_list x.edge ++ edges) samples end) is
        (moved_on t u edges samples end (less (both.0)) both.1 (subst (λ (x : Moved). Records x.track edges samples end) (sym is) r))
      where
        halves : (a b : Bool) → (a && b) ≡ true → (a ≡ true) × (b ≡ true)
        halves true b x = (refl, x)
        halves false b x = cc

        less : nat_lt t.at u ≡ true → t.at < u
        less x = grind (arith, nat_tests)
    turns false e l k =
        let is : record { track = record t { at = u }; edge = None } ≡ m = cc in
        subst (λ (x : Moved). Records t (option_to_list x.edge ++ edges) samples end) is
        (moved_still t u edges samples end l (λ x. other (nat_lt t.at u) (differ t.was_low t.is_low) (grind (arith, nat_tests)) e) (subst (λ (x : Moved). Records x.track edges samples end) (sym is) r))
      where
        other : (a b : Bool) → a ≡ true → (a && b) ≡ false → b ≡ false
        other true b x y = y
        other false b x y = cc

    by : (c : Bool) → nat_lt u t.at ≡ c
        → (if c then None else (if nat_lt t.at u && differ t.was_low t.is_low then Some (record { track = record t { at = u; was_low = t.is_low }; edge = Some (record { at = t.at; low = t.is_low }) }) else Some (record { track = record t { at = u }; edge = None }))) ≡ Some m
        → Records t (option_to_list m.edge ++ edges) samples end
    by true e k = cc
    by false e k = turns (nat_lt t.at u && differ t.was_low t.is_low) refl (grind (arith, nat_tests)) k

-- ---- from the begin on

pub records_capture : RecordsAreCaptures
records_capture edges samples end low r = record { turn = r.turn; ends = r.ends; early = low }

pub records_line : RecordsAreTheLine
records_line edges samples end r u = r.level u (omega arith)

-- What a monitor that follows a capture was told of its line, and the readings that have ended.
use Rattle.std.proofs.Common.{append_assoc, option_map, ◌≡◌, ℕ, suc, max, ◌+◌, ◌-◌, ◌<◌, ◌≤◌, ◌&&◌, ◌⊎◌, inl, inr, not, Bool, true, false, nat_lt, if◌then◌else◌, List, [], ◌∷◌, ◌++◌, Option, Some, None, refl, sym, ap, subst, ◌∙◌, append-nil, arith}
use Rattle.std.specs.Option.{option_to_list}
use Rattle.std.proofs.Math.Nat.{le-max_left, le-max_right, max-eq_left, max-eq_right}
use Rattle.std.proofs.lemmas.Bool.Decides.{nat_tests}
use Rattle.line_wave.specs.declared.Edge.{Edge}
use Rattle.line_wave.specs.Bounds.{latest_instant}
use Rattle.line_wave.specs.Line.{Line, was_low}
use Rattle.line_reading.specs.declared.times.Windows.{Windows}
use Rattle.line_reading.specs.Readings.{Listed}
use Rattle.capture_core.specs.Edges.{AreInTurn, level_at, line_of_edges}
use Rattle.capture_monitor.specs.Monitor.{FollowsCalmBy, FollowsEdgeBy, FollowsEndBy, HeardBeforeBy}
use Rattle.capture_monitor.specs.ReadBy.{ended_before_by, readings_by}
use Rattle.capture_monitor.proofs.ReadBy.{ended_first}
use Rattle.capture_join.specs.Joined.{FindsCalm, FindsEdge, FindsEnd, IsSought, Stays}
use Rattle.follow_core.specs.Teller.{IsTold, IsToldEarly, IsUntold, NoneBefore, TellsCalm, TellsEdge, TellsEnd, TellsIdle, TellsPassed, ToldComeFirst}
use Rattle.line_reading.specs.Reports.{listed_as}
use Rattle.capture_through.specs.declared.passed.Passed.{Passed}
use Rattle.follow_core.specs.declared.teller.PassedReadings.{PassedReadings}
use Rattle.follow_core.specs.declared.teller.Teller.{Teller}

grown : (xs ys ended : List Listed) (o : Option Listed) → ended ≡ xs → ys ≡ xs ++ option_to_list o → ended ++ option_to_list o ≡ ys
grown xs ys ended o is more = ap (λ (t : List Listed). t ++ option_to_list o) is ∙ sym more

-- ---- the begin

pub told_first : (win : Windows) (t : Teller) → ((low : Line) → HeardBeforeBy win t.monitor low 0) → ((low : Line) → IsSought t.search low 0) → t.known ≡ 0 → IsUntold win t
unfolding ended_before_by
told_first win t heard sought known edges end turn ends = record {
  is_low = false;
  level = λ u l. refl;
  before = ap (was_low (line_of_edges edges)) known ∙ (let x : nat_lt 0 0 ≡ false = grind (arith, nat_tests) in ap (λ b. b && line_of_edges edges (0 - 1)) x);
  turn = subst (λ n. AreInTurn false n edges) (sym known) turn;
  ends = ends;
  reach = omega (arith, known);
  heard = subst (λ n. HeardBeforeBy win t.monitor (line_of_edges edges) n) (sym known) (heard (line_of_edges edges));
  listed = ap (ended_before_by win (line_of_edges edges)) (sym known);
  sought = subst (λ n. IsSought t.search (line_of_edges edges) n) (sym known) (sought (line_of_edges edges));
}

-- ---- an edge

-- edges in turn leave the level before the first one
before_turn : (b : Bool) (from : ℕ) (edges : List Edge) → AreInTurn b from edges → (u : ℕ) → u < from → level_at b edges u ≡ b
before_turn b from [] h u l = refl
before_turn b from (e ∷ edges) h u l = let after = h.1 in ap (λ c. if c then b else level_at e.low edges u) (let x : nat_lt u e.at ≡ true = grind (arith, nat_tests) in x)

was_next : (low : Line) (t : ℕ) → was_low low (t + 1) ≡ low t
was_next low t =
    let some : nat_lt 0 (t + 1) ≡ true = grind (arith, nat_tests) in
    rw some (ap low (let x : t + 1 - 1 ≡ t = omega arith in x))

not_twice : (b c : Bool) → c ≡ not b → b ≡ not c
not_twice true c is = ap not (sym is)
not_twice false c is = ap not (sym is)

told_edge : (win : Windows) (old new : Teller) (low : Line) (e : Edge) (edges : List Edge) (end : ℕ) (ended : List Listed) (reported : Option Listed) → new.known ≡ e.at + 1 → IsTold win old low (e ∷ edges) end ended
    → FollowsEdgeBy win old.monitor e reported new.monitor → FindsEdge old.search e new.search → IsTold win new low edges end (ended ++ option_to_list reported)
told_edge win old new low e edges end ended reported known w follows finds = record {
  is_low = e.low;
  level = λ u l. later u (omega (arith, known, l));
  before = ap (was_low low) known ∙ was_next low e.at ∙ now_is;
  turn = subst (λ n. AreInTurn e.low n edges) (sym known) w.turn.2;
  ends = w.ends.1;
  reach = let last = w.ends.0 in omega (arith, known, last);
  heard = subst (λ n. HeardBeforeBy win new.monitor low n) (sym known) d.0;
  listed = grown (ended_before_by win low old.known) (ended_before_by win low new.known) ended reported w.listed (ap (ended_before_by win low) (let x : new.known ≡ suc e.at = omega (arith, known) in x) ∙ d.1);
  sought = subst (λ n. IsSought new.search low n) (sym known) (finds low old.known w.sought after (λ u l s. quiet u l s ∙ sym w.before) (w.before ∙ not_twice w.is_low e.low w.turn.0) now_is);
}
  where
    after : old.known ≤ e.at
    after = w.turn.1

    quiet : (u : ℕ) → old.known ≤ u → u < e.at → low u ≡ w.is_low
    quiet u l s = w.level u l ∙ ap (λ b. if b then w.is_low else level_at e.low edges u) (let x : nat_lt u e.at ≡ true = grind (arith, nat_tests) in x)

    calm : (u : ℕ) → old.known ≤ u → u < e.at → low u ≡ old.monitor.receiver.receiver.was_low
    calm u l s = quiet u l s ∙ sym w.before ∙ sym w.heard.stood.level

    later : (u : ℕ) → e.at ≤ u → low u ≡ level_at e.low edges u
    later u l = w.level u (omega (arith, after)) ∙ ap (λ b. if b then w.is_low else level_at e.low edges u) (let x : nat_lt u e.at ≡ false = grind (arith, nat_tests) in x)

    now_is : low e.at ≡ e.low
    now_is = later e.at (omega arith) ∙ before_turn e.low (e.at + 1) edges w.turn.2 e.at (omega arith)

    d : HeardBeforeBy win new.monitor low (e.at + 1) × (ended_before_by win low (suc e.at) ≡ ended_before_by win low old.known ++ option_to_list reported)
    d = follows low old.known w.heard after calm now_is

pub tells_edge : (old new : Teller) (edge : Option Edge) (e : Edge) (reported : Option Listed) → edge ≡ Some e → e.at ≤ latest_instant → new.known ≡ e.at + 1
    → ((win : Windows) → FollowsEdgeBy win old.monitor e reported new.monitor) → FindsEdge old.search e new.search → Stays old.search.found new.search.found → TellsEdge old edge reported new
tells_edge old new edge e reported is early known follows finds stays = record {
  stays = stays;
  early = omega (arith, known, early);
  told = λ win low edges end ended w.
      told_edge win old new low e edges end ended reported known (subst (λ (o : Option Edge). IsTold win old low (option_to_list o ++ edges) end ended) is w) (follows win) finds;
}

same_stays : (o : Option ℕ) → Stays o o
same_stays None = tt
same_stays (Some t) = refl

pub later_stays : (a b c : Option ℕ) → Stays a b → Stays b c → Stays a c
later_stays None b c one two = tt
later_stays (Some t) b c one two = subst (λ (o : Option ℕ). Stays o c) one two

pub tells_none : (t : Teller) (edge : Option Edge) → edge ≡ None → IsToldEarly t → TellsEdge t edge None t
tells_none t edge is early = record {
  stays = same_stays t.search.found;
  early = early;
  told = λ win low edges end ended w.
      subst (λ (xs : List Listed). IsTold win t low edges end xs) (sym (append-nil ended)) (subst (λ (o : Option Edge). IsTold win t low (option_to_list o ++ edges) end ended) is w);
}

-- ---- no edge before an instant

later_turn : (is_low : Bool) (known until : ℕ) (edges : List Edge) → AreInTurn is_low known edges → NoneBefore until edges → AreInTurn is_low until edges
later_turn is_low known until [] h none = tt
later_turn is_low known until (e ∷ edges) h none = (h.0, none.1.1, h.2)

told_calm : (win : Windows) (old new : Teller) (low : Line) (edges : List Edge) (end : ℕ) (ended : List Listed) (reported : Option Listed) → IsTold win old low edges end ended
    → old.known ≤ new.known → new.known ≤ end + 1 → NoneBefore new.known edges → FollowsCalmBy win old.monitor new.known reported new.monitor → FindsCalm old.search new.known new.search → IsTold win new low edges end (ended ++ option_to_list reported)
told_calm win old new low edges end ended reported w l reach none follows finds = record {
  is_low = w.is_low;
  level = λ u k. w.level u (omega (arith, l, k));
  before = here (nat_lt old.known new.known) refl;
  turn = turn;
  ends = w.ends;
  reach = reach;
  heard = d.0;
  listed = grown (ended_before_by win low old.known) (ended_before_by win low new.known) ended reported w.listed d.1;
  sought = finds low old.known w.sought l (λ u k s. quiet u k s ∙ sym w.before);
}
  where
    turn : AreInTurn w.is_low new.known edges
    turn = later_turn w.is_low old.known new.known edges w.turn none

    quiet : (u : ℕ) → old.known ≤ u → u < new.known → low u ≡ w.is_low
    quiet u k s = w.level u k ∙ before_turn w.is_low new.known edges turn u s

    here : (c : Bool) → nat_lt old.known new.known ≡ c → was_low low new.known ≡ w.is_low
    here true h =
        let less : old.known < new.known = grind (arith, nat_tests) in
        let some : nat_lt 0 new.known ≡ true = grind (arith, nat_tests) in
        rw some (quiet (new.known - 1) (omega arith) (omega arith))
    here false h = let same : new.known ≡ old.known = grind (arith, nat_tests) in ap (was_low low) same ∙ w.before

    d : HeardBeforeBy win new.monitor low new.known × (ended_before_by win low new.known ≡ ended_before_by win low old.known ++ option_to_list reported)
    d = follows low old.known w.heard l (λ u k s. quiet u k s ∙ sym w.before ∙ sym w.heard.stood.level)

-- up to one of two instants that is not before the other
tells_until : (old new : Teller) (from : ℕ) (reported : Option Listed) → IsToldEarly old → from ≤ latest_instant + 1
    → (old.known ≤ new.known) × (from ≤ new.known) → (new.known ≡ old.known) ⊎ (new.known ≡ from) → ((win : Windows) → FollowsCalmBy win old.monitor new.known reported new.monitor) → FindsCalm old.search new.known new.search → Stays old.search.found new.search.found → TellsCalm old from reported new
tells_until old new from reported first second after (inl same) follows finds stays = record {
  stays = stays;
  early = omega (arith, same, first);
  prompt = after.1;
  told = λ win low edges end ended w none reach.
      told_calm win old new low edges end ended reported w after.0 (let r = w.reach in omega (arith, same, r))
      (w.is_low, subst (λ n. AreInTurn w.is_low n edges) (sym same) w.turn) (follows win) finds;
}
tells_until old new from reported first second after (inr same) follows finds stays = record {
  stays = stays;
  early = omega (arith, same, second);
  prompt = after.1;
  told = λ win low edges end ended w none reach.
      told_calm win old new low edges end ended reported w after.0 (omega (arith, same, reach)) (none.0, subst (λ n. AreInTurn none.0 n edges) (sym same) none.1) (follows win) finds;
}

later_is : (a b : ℕ) → (max a b ≡ a) ⊎ (max a b ≡ b)
later_is a b = by (nat_lt a b) refl
  where
    by : (c : Bool) → nat_lt a b ≡ c → (max a b ≡ a) ⊎ (max a b ≡ b)
    by true h = inr (max-eq_right (let x : a ≤ b = grind (arith, nat_tests) in x))
    by false h = inl (max-eq_left (let x : b ≤ a = grind (arith, nat_tests) in x))

pub tells_calm : (old new : Teller) (from : ℕ) (reported : Option Listed) → IsToldEarly old → from ≤ latest_instant + 1
    → new.known ≡ max old.known from → ((win : Windows) → FollowsCalmBy win old.monitor new.known reported new.monitor) → FindsCalm old.search new.known new.search → Stays old.search.found new.search.found → TellsCalm old from reported new
tells_calm old new from reported first second later follows finds stays =
    tells_until old new from reported first second
    (subst (λ n. (old.known ≤ n) × (from ≤ n)) (sym later) (le-max_left old.known from, le-max_right old.known from))
    (subst (λ n. (n ≡ old.known) ⊎ (n ≡ from)) (sym later) (later_is old.known from)) follows finds stays

-- ---- the end

pub tells_end : (t : Teller) (end : ℕ) (reported : Option Listed) → ((win : Windows) → FollowsEndBy win t.monitor end reported) → TellsEnd t end reported
tells_end t end reported follows win low ended w =
    sym (grown (ended_before_by win low t.known) (readings_by win low end) ended reported w.listed (follows win low t.known w.heard w.reach (λ u k s. w.level u k ∙ sym w.before ∙ sym w.heard.stood.level)))

pub tells_idle : (t : Teller) (end idle : ℕ) → FindsEnd t.search end idle → TellsIdle t end idle
tells_idle t end idle finds win low ended w = finds low t.known w.sought w.reach (λ u k s. w.level u k ∙ sym w.before)

-- the readings that have ended are the first of those of the line
pub told_front : ToldComeFirst
told_front win t low edges end ended w =
    let more = ended_first win low t.known end w.reach in
    (more.0, more.1 ∙ ap (λ (xs : List Listed). xs ++ more.0) (sym w.listed))

-- ---- the edges of a step

pub tells_passed : (old mid new : Teller) (passed : Passed) (reported : PassedReadings) → TellsEdge old passed.first (option_map listed_as reported.first) mid → TellsEdge mid passed.second (option_map listed_as reported.second) new → TellsPassed old passed reported new
tells_passed old mid new passed reported first second = record {
  stays = later_stays old.search.found mid.search.found new.search.found first.stays second.stays;
  early = second.early;
  told = λ win low edges end ended w.
      let one = option_to_list (option_map listed_as reported.first) in
      let two = option_to_list (option_map listed_as reported.second) in
      subst (λ (xs : List Listed). IsTold win new low edges end xs) (append_assoc ended one two)
      (second.told win low edges end (ended ++ one)
      (first.told win low (option_to_list passed.second ++ edges) end ended
      (subst (λ (es : List Edge). IsTold win old low es end ended) (append_assoc (option_to_list passed.first) (option_to_list passed.second) edges) w)));
}

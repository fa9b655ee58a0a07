-- The first instant at which a capture's line is idle, by its edges.
use Rattle.std.proofs.Common.{◌≡◌, ℕ, ◌+◌, ◌-◌, ◌<◌, ◌≤◌, ◌&&◌, not, Bool, true, false, nat_lt, if◌then◌else◌, List, [], ◌∷◌, refl, sym, ap, subst, ◌∙◌, arith}
use Rattle.std.proofs.lemmas.Bool.Decides.{nat_tests}
use Rattle.line_wave.specs.declared.Edge.{Edge}
use Rattle.line_wave.specs.Line.{Line, was_low}
use Rattle.capture_core.specs.Edges.{AreInTurn, Captured, EndBy, IsCapture, level_at, line_of_edges}
use Rattle.capture_core.proofs.Recording.{before_turn}
use Rattle.capture_join.specs.Joined.{FindsEdge, FindsEnd, IsJoined, IsSought}
use Rattle.capture_join.specs.declared.idle.IdleSearch.{IdleSearch}

-- what was told of a capture whose edges these are, of which some are left
pub record Searches (all : List Edge) (left : List Edge) (end : ℕ) (s : IdleSearch) : Type 0 where
  pub is_low : Bool
  pub from : ℕ
  pub level : (u : ℕ) → from ≤ u → line_of_edges all u ≡ level_at is_low left u
  pub before : was_low (line_of_edges all) from ≡ is_low
  pub turn : AreInTurn is_low from left
  pub ends : EndBy end left
  pub reach : from ≤ end + 1
  pub sought : IsSought s (line_of_edges all) from

pub search_first : (edges : List Edge) (end : ℕ) (s : IdleSearch) → IsCapture edges end → ((low : Line) → IsSought s low 0) → Searches edges edges end s
search_first edges end s is none = record {
  is_low = false;
  from = 0;
  level = λ u l. refl;
  before = (let x : nat_lt 0 0 ≡ false = grind (arith, nat_tests) in ap (λ b. b && line_of_edges edges (0 - 1)) x);
  turn = is.turn;
  ends = is.ends;
  reach = omega arith;
  sought = none (line_of_edges edges);
}

not_twice : (b c : Bool) → c ≡ not b → b ≡ not c
not_twice true c is = ap not (sym is)
not_twice false c is = ap not (sym is)

pub search_more : (all : List Edge) (e : Edge) (left : List Edge) (end : ℕ) (old new : IdleSearch) → Searches all (e ∷ left) end old → FindsEdge old e new → Searches all left end new
search_more all e left end old new w finds = record {
  is_low = e.low;
  from = e.at + 1;
  level = λ u l. later u (omega arith);
  before = was_next ∙ here;
  turn = w.turn.2;
  ends = w.ends.1;
  reach = let last = w.ends.0 in omega (arith, last);
  sought = finds low w.from w.sought after (λ u l s. quiet u l s ∙ sym w.before) (w.before ∙ not_twice w.is_low e.low w.turn.0) here;
}
  where
    low : Line
    low = line_of_edges all

    after : w.from ≤ e.at
    after = w.turn.1

    quiet : (u : ℕ) → w.from ≤ u → u < e.at → low u ≡ w.is_low
    quiet u l s = w.level u l ∙ ap (λ b. if b then w.is_low else level_at e.low left u) (let x : nat_lt u e.at ≡ true = grind (arith, nat_tests) in x)

    later : (u : ℕ) → e.at ≤ u → low u ≡ level_at e.low left u
    later u l = w.level u (omega (arith, after)) ∙ ap (λ b. if b then w.is_low else level_at e.low left u) (let x : nat_lt u e.at ≡ false = grind (arith, nat_tests) in x)

    here : low e.at ≡ e.low
    here = later e.at (omega arith) ∙ before_turn e.low (e.at + 1) left w.turn.2 e.at (omega arith)

    was_next : was_low low (e.at + 1) ≡ low e.at
    was_next =
        let some : nat_lt 0 (e.at + 1) ≡ true = grind (arith, nat_tests) in
        rw some (ap low (let x : e.at + 1 - 1 ≡ e.at = omega arith in x))

pub search_end : (all : List Edge) (end : ℕ) (s : IdleSearch) (t : ℕ) → Searches all [] end s → FindsEnd s end t → IsJoined (line_of_edges all) end t
search_end all end s t w finds = finds (line_of_edges all) w.from w.sought w.reach (λ u l m. w.level u l ∙ sym w.before)

-- What is left of a line, and its level.
use Rattle.std.proofs.Common.{◌≡◌, ℕ, ◌+◌, ◌-◌, ◌<◌, ◌≤◌, ◌&&◌, ◌||◌, not, Bool, true, false, nat_lt, nat_le, if◌then◌else◌, List, [], ◌∷◌, ◌++◌, length, drop, Option, Some, None, refl, sym, ap, subst, ◌∙◌, arith, append_assoc}
use Rattle.std.proofs.Math.ListN.{drop_of_length-le}
use Rattle.std.specs.Option.{option_to_list}
use Rattle.std.proofs.lemmas.Bool.Decides.{nat_tests}
use Rattle.line_wave.specs.declared.Edge.{Edge}
use Rattle.capture_core.specs.Edges.{AreInTurn, EndBy, IsCapture, level_at}
use Rattle.capture_core.proofs.Recording.{before_turn, sooner_turn}
use Rattle.capture_smooth.specs.Smooth.{AreApart, Smoothing, is_in_short, smooth_edges}

-- ---- one step

pub short : (n : ℕ) (e f : Edge) (es : List Edge) → f.at - e.at < n → smooth_edges n (e ∷ f ∷ es) ≡ smooth_edges n es
short n e f es h = let t : nat_lt (f.at - e.at) n ≡ true = grind (arith, nat_tests) in rw t refl

pub long : (n : ℕ) (e f : Edge) (es : List Edge) → n ≤ f.at - e.at → smooth_edges n (e ∷ f ∷ es) ≡ e ∷ smooth_edges n (f ∷ es)
long n e f es h = let t : nat_lt (f.at - e.at) n ≡ false = grind (arith, nat_tests) in rw t refl

pub kept_more : (n : ℕ) (kept : List Edge) (e f : Edge) (es : List Edge) → n ≤ f.at - e.at → kept ++ smooth_edges n (e ∷ f ∷ es) ≡ (kept ++ e ∷ []) ++ smooth_edges n (f ∷ es)
kept_more n kept e f es h = ap (λ xs. kept ++ xs) (long n e f es h) ∙ sym (append_assoc kept (e ∷ []) (smooth_edges n (f ∷ es)))

-- all are taken
pub all_taken : (n k : ℕ) (edges kept out : List Edge) (held : Option Edge) → length edges ≤ k → smooth_edges n edges ≡ kept ++ smooth_edges n (option_to_list held ++ drop k edges)
    → out ≡ kept ++ option_to_list held → out ≡ smooth_edges n edges
all_taken n k edges kept out held l so_far closed =
    closed ∙ ap (λ xs. kept ++ xs) (sym (last held)) ∙ sym (so_far ∙ ap (λ es. kept ++ smooth_edges n (option_to_list held ++ es)) (drop_of_length-le edges l))
  where
    last : (o : Option Edge) → smooth_edges n (option_to_list o ++ []) ≡ option_to_list o
    last None = refl
    last (Some e) = refl

-- ---- edges that stay

none_short : (es : List Edge) → smooth_edges 0 es ≡ es
none_short [] = refl
none_short (e ∷ []) = refl
none_short (e ∷ f ∷ es) = long 0 e f es (omega arith) ∙ ap (λ xs. e ∷ xs) (none_short (f ∷ es))

all_long : (n : ℕ) (es : List Edge) → AreApart n es → smooth_edges n es ≡ es
all_long n [] h = refl
all_long n (e ∷ []) h = refl
all_long n (e ∷ f ∷ es) h = let d = h.0 in long n e f es (omega arith) ∙ ap (λ xs. e ∷ xs) (all_long n (f ∷ es) h.1)

-- ---- what is left

twice : (a b c : Bool) → b ≡ not a → c ≡ not b → c ≡ a
twice true b c h k = k ∙ ap not h
twice false b c h k = k ∙ ap not h

-- the edges after a pair
after_pair : (b : Bool) (from : ℕ) (e f : Edge) (es : List Edge) → AreInTurn b from (e ∷ f ∷ es) → AreInTurn b from es
after_pair b from e f es h =
    let l = h.1 in
    let m = h.2.1 in
    sooner_turn b (f.at + 1) from es (omega arith) (subst (λ c. AreInTurn c (f.at + 1) es) (twice b e.low f.low h.0 h.2.0) h.2.2)

turn_by : (n : ℕ) (b : Bool) (from : ℕ) (e f : Edge) (es : List Edge) (c : Bool) → nat_lt (f.at - e.at) n ≡ c → AreInTurn b from (e ∷ f ∷ es) → AreInTurn b from (smooth_edges n es) → AreInTurn e.low (e.at + 1) (smooth_edges n (f ∷ es))
    → AreInTurn b from (if c then smooth_edges n es else e ∷ smooth_edges n (f ∷ es))
turn_by n b from e f es true t h pair one = pair
turn_by n b from e f es false t h pair one = (h.0, h.1, one)

pub turn_left : (n : ℕ) (b : Bool) (from : ℕ) (es : List Edge) → AreInTurn b from es → AreInTurn b from (smooth_edges n es)
turn_left n b from [] h = tt
turn_left n b from (e ∷ []) h = h
turn_left n b from (e ∷ f ∷ es) h =
    turn_by n b from e f es (nat_lt (f.at - e.at) n) refl h (turn_left n b from es (after_pair b from e f es h)) (turn_left n e.low (e.at + 1) (f ∷ es) h.2)

ends_by : (n end : ℕ) (e f : Edge) (es : List Edge) (c : Bool) → EndBy end (e ∷ f ∷ es) → EndBy end (smooth_edges n es) → EndBy end (smooth_edges n (f ∷ es)) → EndBy end (if c then smooth_edges n es else e ∷ smooth_edges n (f ∷ es))
ends_by n end e f es true h pair one = pair
ends_by n end e f es false h pair one = (h.0, one)

ends_left : (n end : ℕ) (es : List Edge) → EndBy end es → EndBy end (smooth_edges n es)
ends_left n end [] h = tt
ends_left n end (e ∷ []) h = h
ends_left n end (e ∷ f ∷ es) h = ends_by n end e f es (nat_lt (f.at - e.at) n) h (ends_left n end es h.1.1) (ends_left n end (f ∷ es) h.1)

pub capture_left : (n : ℕ) (es : List Edge) (end : ℕ) → IsCapture es end → IsCapture (smooth_edges n es) end
capture_left n es end h = record { turn = turn_left n false 0 es h.turn; ends = ends_left n end es h.ends; early = h.early }

-- ---- how far apart they are

apart_cons : (n : ℕ) (b : Bool) (e : Edge) (from : ℕ) (es : List Edge) → e.at + n ≤ from → AreInTurn b from es → AreApart n es → AreApart n (e ∷ es)
apart_cons n b e from [] l t h = tt
apart_cons n b e from (f ∷ es) l t h = let k = t.1 in (omega arith, h)

apart_by : (n : ℕ) (b : Bool) (from : ℕ) (e f : Edge) (es : List Edge) (c : Bool) → nat_lt (f.at - e.at) n ≡ c → AreInTurn b from (e ∷ f ∷ es) → AreApart n (smooth_edges n es) → AreApart n (smooth_edges n (f ∷ es))
    → AreApart n (if c then smooth_edges n es else e ∷ smooth_edges n (f ∷ es))
apart_by n b from e f es true t h pair one = pair
apart_by n b from e f es false t h pair one =
    let far : n ≤ f.at - e.at = grind (arith, nat_tests) in
    let after = h.2.1 in
    apart_cons n e.low e f.at (smooth_edges n (f ∷ es)) (omega arith) (turn_left n e.low f.at (f ∷ es) (h.2.0, omega arith, h.2.2)) one

apart_left : (n : ℕ) (b : Bool) (from : ℕ) (es : List Edge) → AreInTurn b from es → AreApart n (smooth_edges n es)
apart_left n b from [] h = tt
apart_left n b from (e ∷ []) h = tt
apart_left n b from (e ∷ f ∷ es) h =
    apart_by n b from e f es (nat_lt (f.at - e.at) n) refl h (apart_left n b from es (after_pair b from e f es h)) (apart_left n e.low (e.at + 1) (f ∷ es) h.2)

-- ---- the level

or_left : (a b : Bool) → (a || b) ≡ false → a ≡ false
or_left true b h = cc
or_left false b h = refl

or_right : (a b : Bool) → (a || b) ≡ false → b ≡ false
or_right true b h = cc
or_right false b h = h

-- an instant that is no instant of a short pair comes before it or after it
outside : (u x y : ℕ) (c : Bool) → c ≡ true → (nat_le x u && nat_lt u y && c) ≡ false → nat_lt u x ≡ false → nat_lt u y ≡ false
outside u x y c s h k = by (nat_lt u y) refl
  where
    not_both : (a b : Bool) → a ≡ true → b ≡ true → (a && b && c) ≡ false → true ≡ false
    not_both a b p q r = sym (ap (λ z. z && b && c) p ∙ ap (λ z. true && z && c) q ∙ s) ∙ r

    by : (d : Bool) → nat_lt u y ≡ d → d ≡ false
    by true t = not_both (nat_le x u) (nat_lt u y) (grind (arith, nat_tests)) t h
    by false t = refl

level_by : (n : ℕ) (b : Bool) (from : ℕ) (e f : Edge) (es : List Edge) (u : ℕ) (c : Bool) → nat_lt (f.at - e.at) n ≡ c → AreInTurn b from (e ∷ f ∷ es)
    → is_in_short n (e ∷ f ∷ es) u ≡ false
    → level_at b (smooth_edges n es) u ≡ level_at b es u → level_at e.low (smooth_edges n (f ∷ es)) u ≡ level_at e.low (f ∷ es) u
    → level_at b (if c then smooth_edges n es else e ∷ smooth_edges n (f ∷ es)) u ≡ level_at b (e ∷ f ∷ es) u
level_by n b from e f es u false t h out pair one = ap (λ l. if nat_lt u e.at then b else l) one
level_by n b from e f es u true t h out pair one = before (nat_lt u e.at) refl
  where
    low : f.low ≡ b
    low = twice b e.low f.low h.0 h.2.0

    rest : AreInTurn b (f.at + 1) es
    rest = subst (λ c. AreInTurn c (f.at + 1) es) low h.2.2

    here : (nat_le e.at u && nat_lt u f.at && nat_lt (f.at - e.at) n) ≡ false
    here = or_left (nat_le e.at u && nat_lt u f.at && nat_lt (f.at - e.at) n) (is_in_short n (f ∷ es) u) out

    before : (d : Bool) → nat_lt u e.at ≡ d → level_at b (smooth_edges n es) u ≡ (if d then b else if nat_lt u f.at then e.low else level_at f.low es u)
    before true k =
        let sooner : u < e.at = grind (arith, nat_tests) in
        let after = h.2.1 in
        before_turn b (f.at + 1) (smooth_edges n es) (turn_left n b (f.at + 1) es rest) u (omega arith)
    before false k =
        pair ∙ ap (λ l. level_at l es u) (sym low) ∙ sym (ap (λ d. if d then e.low else level_at f.low es u) (outside u e.at f.at (nat_lt (f.at - e.at) n) t here k))

level_left : (n : ℕ) (b : Bool) (from : ℕ) (es : List Edge) (u : ℕ) → AreInTurn b from es → is_in_short n es u ≡ false → level_at b (smooth_edges n es) u ≡ level_at b es u
level_left n b from [] u h out = refl
level_left n b from (e ∷ []) u h out = refl
level_left n b from (e ∷ f ∷ es) u h out =
    let later : is_in_short n (f ∷ es) u ≡ false = or_right (nat_le e.at u && nat_lt u f.at && nat_lt (f.at - e.at) n) (is_in_short n (f ∷ es) u) out in
    level_by n b from e f es u (nat_lt (f.at - e.at) n) refl h out
    (level_left n b from es u (after_pair b from e f es h) (tail_short n f es u later))
    (level_left n e.low (e.at + 1) (f ∷ es) u h.2 later)
  where
    tail_short : (n : ℕ) (f : Edge) (es : List Edge) (u : ℕ) → is_in_short n (f ∷ es) u ≡ false → is_in_short n es u ≡ false
    tail_short n f [] u h = refl
    tail_short n f (g ∷ es) u h = or_right (nat_le f.at u && nat_lt u g.at && nat_lt (g.at - f.at) n) (is_in_short n (g ∷ es) u) h

pub smoothing : Smoothing
smoothing = record {
  none = none_short;
  long = all_long;
  apart = λ n es end h. apart_left n false 0 es h.turn;
  capture = capture_left;
  level = λ n es end u h out. level_left n false 0 es u h.turn out;
}

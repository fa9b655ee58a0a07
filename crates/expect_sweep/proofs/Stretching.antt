-- Stretches, one instant more at a time.
use Rattle.std.proofs.Common.{◌≡◌, ◌≢◌, ℕ, suc, ◌+◌, ◌-◌, ◌*◌, ◌/◌, ◌<◌, ◌≤◌, ◌&&◌, Bool, true, false, List, [], ◌∷◌, ◌++◌, length, map, cond, ap, sym, refl, ◌∙◌, subst, arith, append_assoc, append-nil, true≢false}
use Rattle.std.specs.Bool.{beq}
use Rattle.std.specs.List.{All, flat_map}
use Rattle.std.proofs.lemmas.List.Elements.{All-append, All-cons, All-head, All-nil, All-push, All-same, All-tail, All-weaker}
use Rattle.std.proofs.lemmas.List.Folds.{list_all-append}
use Rattle.std.proofs.lemmas.Grind.{flat_map-append}
use Rattle.std.proofs.lemmas.List.{map-append}
use Rattle.record_core.specs.declared.cell.Form.{Form}
use Rattle.expect_sweep.specs.Series.{InstantSeries, instants_from, instants, instants_of}
use Rattle.expect_sweep.specs.Stretches.{AreStretches, DifferInTurn, StretchesDraft, IsFound, Stretch, all_hold, are_all_ok, are_same, first_draft, draft_at_end, instants_in, longer, next, stretch_line, stretches_text, with_instant}
use lib.Pointwise.{pointwise_decides}
use Rattle.expect_sweep.proofs.Instants.{counted_next, counted_none, instants_more, one_instant}

-- A draft of the instants of a series up to the last one of its last stretch.
pub record IsDraft (Found : ℕ → List Bool → Type 0) (s : InstantSeries) (d : StretchesDraft) : Type 0 where
  pub before : List Stretch
  pub count : ℕ
  pub grid : d.last.last ≡ d.last.first + count * s.step
  pub whole : flat_map (instants_in s.step) before ++ (instants_in s.step d.last ++ instants_from (d.last.last + s.step) s.step ((s.to - d.last.last) / s.step)) ≡ instants_of s
  pub found : All (IsFound Found s.step) before
  pub found_last : IsFound Found s.step d.last
  pub longest : DifferInTurn (map (λ x. x.verdicts) before ++ d.last.verdicts ∷ [])
  pub text : d.text ≡ stretches_text d.form before
  pub holds : d.holds ≡ (all_hold before && are_all_ok d.last.verdicts)
  pub passed : ℕ
  pub done : d.done ≡ suc passed
  pub reach : d.last.last ≡ s.from + passed * s.step
  pub front : flat_map (instants_in s.step) before ++ instants_in s.step d.last ≡ instants s.step s.from d.last.last
  pub counted : d.stretches ≡ suc (length before)
  pub few : d.stretches ≤ d.done
  pub early : d.done ≤ suc d.last.last

-- ---- lists

pub flat_map_push : {A B : Type 0} (f : A → List B) (xs : List A) (x : A) → flat_map f (xs ++ x ∷ []) ≡ flat_map f xs ++ f x
flat_map_push f xs x = flat_map-append f xs (x ∷ []) ∙ ap (λ l. flat_map f xs ++ l) (append-nil (f x))

differ_push : (xs : List (List Bool)) (v w : List Bool) → DifferInTurn (xs ++ v ∷ []) → v ≢ w → DifferInTurn ((xs ++ v ∷ []) ++ w ∷ [])
differ_push [] v w h n = (n, tt)
differ_push (x ∷ []) v w h n = (h.0, (n, tt))
differ_push (x ∷ y ∷ ys) v w h n = (h.0, differ_push (y ∷ ys) v w h.1 n)

all_hold_push : (xs : List Stretch) (x : Stretch) → all_hold (xs ++ x ∷ []) ≡ (all_hold xs && are_all_ok x.verdicts)
all_hold_push xs x = list_all-append (λ s. are_all_ok s.verdicts) xs (x ∷ []) ∙ ap (λ b. all_hold xs && b) (and_true (are_all_ok x.verdicts)) where
  and_true : (b : Bool) → (b && true) ≡ b
  and_true true = refl
  and_true false = refl

pub verdicts_push : (xs : List Stretch) (x : Stretch) → map (λ y. y.verdicts) (xs ++ x ∷ []) ≡ map (λ y. y.verdicts) xs ++ x.verdicts ∷ []
verdicts_push xs x = map-append (λ y. y.verdicts) xs (x ∷ [])

booleans : (x y : Bool) → (beq x y ≡ true → x ≡ y) × (x ≡ y → beq x y ≡ true)
booleans true true = (λ e. refl, λ e. refl)
booleans true false = (λ e. absurd (true≢false (sym e)), λ e. absurd (true≢false e))
booleans false true = (λ e. absurd (true≢false (sym e)), λ e. absurd (true≢false (sym e)))
booleans false false = (λ e. refl, λ e. refl)

-- ---- the first instant

pub begun_is : (form : Form) (Found : ℕ → List Bool → Type 0) (s : InstantSeries) (vs : List Bool) → 0 < s.step → Found s.from vs → IsDraft Found s (first_draft form s.from vs)
begun_is form Found s vs moves found = record {
  before = [];
  count = 0;
  grid = omega arith;
  whole = first_is;
  found = All-nil (IsFound Found s.step);
  found_last = All-same (λ t. Found t vs) (instants s.step s.from s.from) (s.from ∷ []) alone (All-cons (λ t. Found t vs) s.from [] found (All-nil (λ t. Found t vs)));
  longest = tt;
  text = refl;
  holds = refl;
  passed = 0;
  done = refl;
  reach = omega arith;
  front = refl;
  counted = refl;
  few = omega arith;
  early = omega arith;
} where
  alone : instants s.step s.from s.from ≡ s.from ∷ []
  alone = one_instant s.step s.from moves

  one_more : (n : ℕ) → s.from ∷ instants_from (s.from + s.step) s.step n ≡ instants_from s.from s.step (n + 1)
  one_more n = let e : suc n ≡ n + 1 = omega arith in ap (instants_from s.from s.step) e

  first_is : instants s.step s.from s.from ++ instants_from (s.from + s.step) s.step ((s.to - s.from) / s.step) ≡ instants_of s
  first_is = ap (λ ts. ts ++ instants_from (s.from + s.step) s.step ((s.to - s.from) / s.step)) alone ∙ one_more ((s.to - s.from) / s.step)

-- ---- one more

pub length-push : (xs : List Stretch) (x : Stretch) → length (xs ++ x ∷ []) ≡ suc (length xs)
length-push [] x = refl
length-push (y ∷ xs) x = ap (λ n. suc n) (length-push xs x)

-- the instants so far, and the next one
further : (Found : ℕ → List Bool → Type 0) (s : InstantSeries) (d : StretchesDraft) → 0 < s.step → (is : IsDraft Found s d)
    → flat_map (instants_in s.step) is.before ++ (instants_in s.step d.last ++ (d.last.last + s.step) ∷ []) ≡ instants s.step s.from (d.last.last + s.step)
further Found s d moves is =
    sym (append_assoc (flat_map (instants_in s.step) is.before) (instants_in s.step d.last) ((d.last.last + s.step) ∷ [])) ∙ ap (λ ts. ts ++ (d.last.last + s.step) ∷ []) is.front
    ∙ sym (instants_more s.step s.from is.passed d.last.last moves is.reach)

longer_is : (Found : ℕ → List Bool → Type 0) (s : InstantSeries) (d : StretchesDraft) → 0 < s.step → d.last.last ≤ s.to → s.step ≤ s.to - d.last.last → Found (d.last.last + s.step) d.last.verdicts
    → IsDraft Found s d → IsDraft Found s (longer d (d.last.last + s.step))
longer_is Found s d moves within room found is = record {
  before = is.before;
  count = suc is.count;
  grid = omega (arith, is.grid);
  whole = ap (λ ts. flat_map (instants_in s.step) is.before ++ ts) rest ∙ is.whole;
  found = is.found;
  found_last = All-same (λ t. Found t d.last.verdicts) (instants s.step d.last.first (d.last.last + s.step)) (instants_in s.step d.last ++ (d.last.last + s.step) ∷ []) more
      (All-push (λ t. Found t d.last.verdicts) (instants_in s.step d.last) (d.last.last + s.step) is.found_last found);
  longest = is.longest;
  text = is.text;
  holds = is.holds;
  passed = suc is.passed;
  done = omega (arith, is.done);
  reach = omega (arith, is.reach);
  front = ap (λ ts. flat_map (instants_in s.step) is.before ++ ts) more ∙ further Found s d moves is;
  counted = is.counted;
  few = omega (arith, is.few);
  early = omega (arith, is.early, moves);
} where
  more : instants s.step d.last.first (d.last.last + s.step) ≡ instants_in s.step d.last ++ (d.last.last + s.step) ∷ []
  more = instants_more s.step d.last.first is.count d.last.last moves is.grid

  rest : instants s.step d.last.first (d.last.last + s.step) ++ instants_from (d.last.last + s.step + s.step) s.step ((s.to - (d.last.last + s.step)) / s.step)
      ≡ instants_in s.step d.last ++ instants_from (d.last.last + s.step) s.step ((s.to - d.last.last) / s.step)
  rest = ap (λ ts. ts ++ instants_from (d.last.last + s.step + s.step) s.step ((s.to - (d.last.last + s.step)) / s.step)) more
      ∙ append_assoc (instants_in s.step d.last) ((d.last.last + s.step) ∷ []) (instants_from (d.last.last + s.step + s.step) s.step ((s.to - (d.last.last + s.step)) / s.step))
      ∙ ap (λ ts. instants_in s.step d.last ++ ts) (sym (counted_next s.step d.last.last s.to moves within room))

next_is : (Found : ℕ → List Bool → Type 0) (s : InstantSeries) (d : StretchesDraft) (vs : List Bool) → 0 < s.step → d.last.last ≤ s.to → s.step ≤ s.to - d.last.last → Found (d.last.last + s.step) vs
    → d.last.verdicts ≢ vs → IsDraft Found s d → IsDraft Found s (next d (d.last.last + s.step) vs)
next_is Found s d vs moves within room found differs is = record {
  before = is.before ++ d.last ∷ [];
  count = 0;
  grid = omega arith;
  whole = rest ∙ is.whole;
  found = All-push (IsFound Found s.step) is.before d.last is.found is.found_last;
  found_last = All-same (λ t. Found t vs) (instants s.step (d.last.last + s.step) (d.last.last + s.step)) ((d.last.last + s.step) ∷ []) alone
      (All-cons (λ t. Found t vs) (d.last.last + s.step) [] found (All-nil (λ t. Found t vs)));
  longest = subst (λ vss. DifferInTurn (vss ++ vs ∷ [])) (sym (verdicts_push is.before d.last)) (differ_push (map (λ x. x.verdicts) is.before) d.last.verdicts vs is.longest differs);
  text = ap (λ t. t ++ stretch_line d.form d.last) is.text ∙ sym (flat_map_push (stretch_line d.form) is.before d.last);
  holds = ap (λ b. b && are_all_ok vs) (is.holds ∙ sym (all_hold_push is.before d.last));
  passed = suc is.passed;
  done = omega (arith, is.done);
  reach = omega (arith, is.reach);
  front = ap (λ ts. flat_map (instants_in s.step) (is.before ++ d.last ∷ []) ++ ts) alone ∙ ap (λ ts. ts ++ (d.last.last + s.step) ∷ []) (flat_map_push (instants_in s.step) is.before d.last)
      ∙ append_assoc (flat_map (instants_in s.step) is.before) (instants_in s.step d.last) ((d.last.last + s.step) ∷ []) ∙ further Found s d moves is;
  counted = omega (arith, is.counted, length-push is.before d.last);
  few = omega (arith, is.few);
  early = omega (arith, is.early, moves);
} where
  alone : instants s.step (d.last.last + s.step) (d.last.last + s.step) ≡ (d.last.last + s.step) ∷ []
  alone = one_instant s.step (d.last.last + s.step) moves

  rest : flat_map (instants_in s.step) (is.before ++ d.last ∷ []) ++ (instants s.step (d.last.last + s.step) (d.last.last + s.step) ++ instants_from (d.last.last + s.step + s.step) s.step ((s.to - (d.last.last + s.step)) / s.step))
      ≡ flat_map (instants_in s.step) is.before ++ (instants_in s.step d.last ++ instants_from (d.last.last + s.step) s.step ((s.to - d.last.last) / s.step))
  rest = ap (λ ts. flat_map (instants_in s.step) (is.before ++ d.last ∷ []) ++ (ts ++ instants_from (d.last.last + s.step + s.step) s.step ((s.to - (d.last.last + s.step)) / s.step))) alone
      ∙ ap (λ ts. flat_map (instants_in s.step) (is.before ++ d.last ∷ []) ++ ts) (sym (counted_next s.step d.last.last s.to moves within room))
      ∙ ap (λ ts. ts ++ instants_from (d.last.last + s.step) s.step ((s.to - d.last.last) / s.step)) (flat_map_push (instants_in s.step) is.before d.last)
      ∙ append_assoc (flat_map (instants_in s.step) is.before) (instants_in s.step d.last) (instants_from (d.last.last + s.step) s.step ((s.to - d.last.last) / s.step))

by_same : (Found : ℕ → List Bool → Type 0) (s : InstantSeries) (d : StretchesDraft) (vs : List Bool) (same : Bool) → 0 < s.step → d.last.last ≤ s.to → s.step ≤ s.to - d.last.last → Found (d.last.last + s.step) vs
    → (same ≡ true → d.last.verdicts ≡ vs) → (d.last.verdicts ≡ vs → same ≡ true) → IsDraft Found s d
    → IsDraft Found s (cond same (longer d (d.last.last + s.step)) (next d (d.last.last + s.step) vs))
by_same Found s d vs true moves within room found equal reported is =
    longer_is Found s d moves within room (subst (Found (d.last.last + s.step)) (sym (equal refl)) found) is
by_same Found s d vs false moves within room found equal reported is =
    next_is Found s d vs moves within room found (λ e. absurd (true≢false (sym (reported e)))) is

pub more_is : (Found : ℕ → List Bool → Type 0) (s : InstantSeries) (d : StretchesDraft) (vs : List Bool) → 0 < s.step → d.last.last ≤ s.to → s.step ≤ s.to - d.last.last → Found (d.last.last + s.step) vs
    → IsDraft Found s d → IsDraft Found s (with_instant d (d.last.last + s.step) vs)
more_is Found s d vs moves within room found is =
    let decides = pointwise_decides (λ x y. booleans x y) d.last.verdicts vs in
    by_same Found s d vs (are_same d.last.verdicts vs) moves within room found decides.0 decides.1 is

-- ---- the last instant

pub ended_is : (Found : ℕ → List Bool → Type 0) (s : InstantSeries) (d : StretchesDraft) → 0 < s.step → s.to - d.last.last < s.step → IsDraft Found s d
    → (stretches : List Stretch) × AreStretches Found s stretches × ((draft_at_end d).text ≡ stretches_text d.form stretches) × (d.holds ≡ all_hold stretches)
ended_is Found s d moves last is = (is.before ++ d.last ∷ [], are, ap (λ t. t ++ stretch_line d.form d.last) is.text ∙ sym (flat_map_push (stretch_line d.form) is.before d.last), is.holds ∙ sym (all_hold_push is.before d.last)) where
  all : flat_map (instants_in s.step) (is.before ++ d.last ∷ []) ≡ instants_of s
  all = flat_map_push (instants_in s.step) is.before d.last
      ∙ ap (λ ts. flat_map (instants_in s.step) is.before ++ ts) (sym (append-nil (instants_in s.step d.last)))
      ∙ ap (λ ts. flat_map (instants_in s.step) is.before ++ (instants_in s.step d.last ++ ts)) (sym (counted_none s.step d.last.last s.to moves last))
      ∙ is.whole

  are : AreStretches Found s (is.before ++ d.last ∷ [])
  are = record {
    whole = all;
    found = All-push (IsFound Found s.step) is.before d.last is.found is.found_last;
    longest = subst DifferInTurn (sym (verdicts_push is.before d.last)) is.longest;
  }

-- ---- the instants that are over

over : (Found : ℕ → List Bool → Type 0) (step : ℕ) (xs : List Stretch) → All (IsFound Found step) xs → All (λ t. (vs : List Bool) × Found t vs) (flat_map (instants_in step) xs)
over Found step [] h = All-nil (λ t. (vs : List Bool) × Found t vs)
over Found step (x ∷ xs) h =
    All-append (λ t. (vs : List Bool) × Found t vs) (instants_in step x) (flat_map (instants_in step) xs)
    (All-weaker (λ t. Found t x.verdicts) (λ t. (vs : List Bool) × Found t vs) (λ t f. (x.verdicts, f)) (instants_in step x) (All-head (IsFound Found step) x xs h))
    (over Found step xs (All-tail (IsFound Found step) x xs h))

-- those before the next instant
pub over_before : (Found : ℕ → List Bool → Type 0) (s : InstantSeries) (d : StretchesDraft) → 0 < s.step → d.last.last ≤ s.to → s.step ≤ s.to - d.last.last → IsDraft Found s d
    → (before after : List ℕ) × (instants_of s ≡ before ++ (d.last.last + s.step) ∷ after) × All (λ t. (vs : List Bool) × Found t vs) before
over_before Found s d moves within room is = (
  flat_map (instants_in s.step) (is.before ++ d.last ∷ []),
  instants_from (d.last.last + s.step + s.step) s.step ((s.to - (d.last.last + s.step)) / s.step),
  split,
  over Found s.step (is.before ++ d.last ∷ []) (All-push (IsFound Found s.step) is.before d.last is.found is.found_last),
) where
  split : instants_of s ≡ flat_map (instants_in s.step) (is.before ++ d.last ∷ []) ++ (d.last.last + s.step) ∷ instants_from (d.last.last + s.step + s.step) s.step ((s.to - (d.last.last + s.step)) / s.step)
  split = sym is.whole ∙ sym (append_assoc (flat_map (instants_in s.step) is.before) (instants_in s.step d.last) (instants_from (d.last.last + s.step) s.step ((s.to - d.last.last) / s.step)))
      ∙ ap (λ ts. ts ++ instants_from (d.last.last + s.step) s.step ((s.to - d.last.last) / s.step)) (sym (flat_map_push (instants_in s.step) is.before d.last))
      ∙ ap (λ ts. flat_map (instants_in s.step) (is.before ++ d.last ∷ []) ++ ts) (counted_next s.step d.last.last s.to moves within room)

-- ---- as they are made

pub draft_begun : (form : Form) (Found : ℕ → List Bool → Type 0) (s : InstantSeries) (d : StretchesDraft) (at : ℕ) (vs : List Bool) → at ≡ s.from → d ≡ first_draft form at vs → 0 < s.step → Found at vs → IsDraft Found s d
draft_begun form Found s d at vs is made moves found =
    subst (IsDraft Found s) (sym (made ∙ ap (λ t. first_draft form t vs) is)) (begun_is form Found s vs moves (subst (λ t. Found t vs) is found))

last_by : (d : StretchesDraft) (t : ℕ) (vs : List Bool) (same : Bool) → (cond same (longer d t) (next d t vs)).last.last ≡ t
last_by d t vs true = refl
last_by d t vs false = refl

pub last_is : (d e : StretchesDraft) (t : ℕ) (vs : List Bool) → e ≡ with_instant d t vs → e.last.last ≡ t
last_is d e t vs made = ap (λ (x : StretchesDraft). x.last.last) made ∙ last_by d t vs (are_same d.last.verdicts vs)

pub draft_more : (Found : ℕ → List Bool → Type 0) (s : InstantSeries) (d e : StretchesDraft) (at step to : ℕ) (vs : List Bool) → step ≡ s.step → to ≡ s.to → d.last.last ≡ at → e ≡ with_instant d (at + step) vs
    → 0 < s.step → at ≤ to → step ≤ to - at → Found (at + step) vs → IsDraft Found s d → IsDraft Found s e
draft_more Found s d e at step to vs step_is to_is last made moves within room found is =
    let t : at + step ≡ d.last.last + s.step = omega (arith, step_is, last) in
    let before : d.last.last ≤ s.to = omega (arith, to_is, last, within) in
    let more : s.step ≤ s.to - d.last.last = omega (arith, step_is, to_is, last, room) in
    subst (IsDraft Found s) (sym (made ∙ ap (λ u. with_instant d u vs) t)) (more_is Found s d vs moves before more (subst (λ u. Found u vs) t found) is)

form_by : (d : StretchesDraft) (t : ℕ) (vs : List Bool) (same : Bool) → (cond same (longer d t) (next d t vs)).form ≡ d.form
form_by d t vs true = refl
form_by d t vs false = refl

-- the form stays
pub form_is : (d e : StretchesDraft) (form : Form) (t : ℕ) (vs : List Bool) → e ≡ with_instant d t vs → d.form ≡ form → e.form ≡ form
form_is d e form t vs made is = ap (λ (x : StretchesDraft). x.form) made ∙ form_by d t vs (are_same d.last.verdicts vs) ∙ is

pub draft_ended : (form : Form) (Found : ℕ → List Bool → Type 0) (s : InstantSeries) (d e : StretchesDraft) (at step to : ℕ) → d.form ≡ form → step ≡ s.step → to ≡ s.to → d.last.last ≡ at → e ≡ draft_at_end d
    → 0 < s.step → to - at < step → IsDraft Found s d
    → (stretches : List Stretch) × AreStretches Found s stretches × (e.text ≡ stretches_text form stretches) × (e.holds ≡ all_hold stretches)
draft_ended form Found s d e at step to same step_is to_is last made moves none is =
    let past : s.to - d.last.last < s.step = omega (arith, step_is, to_is, last, none) in
    let done = ended_is Found s d moves past is in
    (done.0, done.1, ap (λ (x : StretchesDraft). x.text) made ∙ done.2 ∙ ap (λ (f : Form). stretches_text f done.0) same, ap (λ (x : StretchesDraft). x.holds) made ∙ done.3)

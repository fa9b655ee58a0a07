-- What is looked for, and its patterns.
use Rattle.std.proofs.Common.{◌≡◌, ℕ, ◌&&◌, ◌||◌, Bool, true, false, List, [], ◌∷◌, ◌++◌, Option, Some, None, is_none, refl, sym, ap, ◌∙◌}
use Rattle.std.specs.List.{list_any}
use Rattle.std.specs.Str.{bytes_eq}
use Rattle.std.proofs.lemmas.Bool.{false≢true}
use Rattle.std.proofs.lemmas.Slice.Eq.{bytes_eq-Decides}
use denote.Ref.{Bor}
use Rattle.expect_text.specs.Names.{meets}
use Rattle.expect_judge.specs.Told.{RoundLine}
use Rattle.expect_judge.specs.declared.seen.TimeSpan.{TimeSpan}
use Rattle.expect_run.specs.Kept.{Watch, is_met, is_within}
use Rattle.expect_run.specs.Groups.{is_known_met, is_known_within, is_sought}

any_more : {X : Type 0} (p : X → Bool) (xs : List X) (x : X) → list_any p (xs ++ x ∷ []) ≡ (list_any p xs || p x)
any_more p [] x = or_none (p x)
  where
    or_none : (b : Bool) → (b || false) ≡ b
    or_none true = refl
    or_none false = refl
any_more p (y ∷ ys) x = by (p y) (any_more p ys x)
  where
    by : (b : Bool) → list_any p (ys ++ x ∷ []) ≡ (list_any p ys || p x) → (b || list_any p (ys ++ x ∷ [])) ≡ ((b || list_any p ys) || p x)
    by true more = refl
    by false more = more

or_so : (a : Bool) → (a || true) ≡ true
or_so true = refl
or_so false = refl

or_not : (a : Bool) → a ≡ (a || false)
or_not true = refl
or_not false = refl

-- a pattern that stands among others
had : (texts : List (Bor (List ℕ))) (pattern reported : List ℕ) → list_any (λ text. bytes_eq text.now pattern) texts ≡ true → meets pattern reported ≡ true
    → list_any (λ text. meets text.now reported) texts ≡ true
had [] pattern reported h k = h
had (text ∷ texts) pattern reported h k = by (bytes_eq text.now pattern) refl h (λ m. had texts pattern reported m k)
  where
    by : (b : Bool) → bytes_eq text.now pattern ≡ b → (b || list_any (λ text. bytes_eq text.now pattern) texts) ≡ true
        → (list_any (λ text. bytes_eq text.now pattern) texts ≡ true → list_any (λ text. meets text.now reported) texts ≡ true)
        → (meets text.now reported || list_any (λ text. meets text.now reported) texts) ≡ true
    by true e m more =
        let same : text.now ≡ pattern = (bytes_eq-Decides text.now pattern).0 e in
        ap (λ b. b || list_any (λ (text : Bor (List ℕ)). meets text.now reported) texts) (ap (λ t. meets t reported) same ∙ k)
    by false e m more = ap (λ b. meets text.now reported || b) (more m) ∙ or_so (meets text.now reported)

-- one that stands there
pub had_already : (texts : List (Bor (List ℕ))) (pattern reported : List ℕ) → list_any (λ text. bytes_eq text.now pattern) texts ≡ true
    → list_any (λ text. meets text.now reported) texts ≡ (list_any (λ text. meets text.now reported) texts || meets pattern reported)
had_already texts pattern reported there = by (meets pattern reported) refl
  where
    by : (b : Bool) → meets pattern reported ≡ b → list_any (λ text. meets text.now reported) texts ≡ (list_any (λ text. meets text.now reported) texts || b)
    by true e = had texts pattern reported there e ∙ sym (or_so (list_any (λ (text : Bor (List ℕ)). meets text.now reported) texts))
    by false e = or_not (list_any (λ (text : Bor (List ℕ)). meets text.now reported) texts)

-- one that is new
pub added : (old new : List (Bor (List ℕ))) (text : Bor (List ℕ)) (pattern reported : List ℕ) → text.now ≡ pattern → new ≡ old ++ text ∷ []
    → list_any (λ text. meets text.now reported) new ≡ (list_any (λ text. meets text.now reported) old || meets pattern reported)
added old new text pattern reported same made =
    ap (list_any (λ (text : Bor (List ℕ)). meets text.now reported)) made ∙ any_more (λ text. meets text.now reported) old text
    ∙ ap (λ b. list_any (λ (text : Bor (List ℕ)). meets text.now reported) old || b) (ap (λ t. meets t reported) same)

-- one that is not sought
pub not_sought : (a b c : Bool) → b ≡ false → a ≡ (a || (b && c))
not_sought a b c h = or_not a ∙ ap (λ d. a || (d && c)) (sym h)

pub sought : (new a b c : Bool) → b ≡ true → new ≡ (a || c) → new ≡ (a || (b && c))
sought new a b c h made = made ∙ ap (λ d. a || (d && c)) (sym h)

or_assoc : (a b c : Bool) → ((a || b) || c) ≡ (a || (b || c))
or_assoc true b c = refl
or_assoc false b c = refl

-- one pattern more
pub one_more : (a new first rest goal : Bool) → new ≡ (a || first) → (a || (first || rest)) ≡ goal → (new || rest) ≡ goal
one_more a new first rest goal made before = ap (λ b. b || rest) made ∙ or_assoc a first rest ∙ before

pub no_more : (a goal : Bool) → (a || false) ≡ goal → a ≡ goal
no_more a goal before = or_not a ∙ before

-- ---- rounds

left_of : (a b : Bool) → (a || b) ≡ false → a ≡ false
left_of true b h = h
left_of false b h = refl

right_of : (a b : Bool) → (a || b) ≡ false → b ≡ false
right_of true b h = absurd (false≢true (sym h))
right_of false b h = h

and_not : (a b : Bool) → b ≡ false → (a && b) ≡ false
and_not true b h = h
and_not false b h = refl

neither : (a b : Bool) → a ≡ false → b ≡ false → (a || b) ≡ false
neither a b h k = ap (λ c. c || b) h ∙ k

-- a round that meets no pattern
pub none_met : (watches : List Watch) (r : RoundLine) → list_any (λ watch. is_sought false watch && meets watch.pattern r.reported) watches ≡ false → list_any (is_met r) watches ≡ false
none_met [] r h = refl
none_met (w ∷ watches) r h =
    neither (is_met r w) (list_any (is_met r) watches)
    (and_not (is_within w.span r) (meets w.pattern r.reported) (left_of (meets w.pattern r.reported) (list_any (λ (watch : Watch). is_sought false watch && meets watch.pattern r.reported) watches) h))
    (none_met watches r (right_of (meets w.pattern r.reported) (list_any (λ (watch : Watch). is_sought false watch && meets watch.pattern r.reported) watches) h))

mixed : (a b c d : Bool) → ((a || b) || (c || d)) ≡ ((a || c) || (b || d))
mixed true b c d = refl
mixed false true true d = refl
mixed false true false d = refl
mixed false false c d = refl

-- a span is known or not
either : (o : Option TimeSpan) (r : RoundLine) (b : Bool) → ((is_none o && b) || (is_known_within o r && b)) ≡ (is_within o r && b)
either None r b = sym (or_not b)
either (Some span) r b = refl

-- a round that is looked for: by a pattern alone, or in a known span
pub met_so : (watches : List Watch) (r : RoundLine)
    → (list_any (λ watch. is_sought true watch && meets watch.pattern r.reported) watches || list_any (is_known_met r) watches) ≡ list_any (is_met r) watches
met_so [] r = refl
met_so (w ∷ watches) r =
    mixed (is_sought true w && meets w.pattern r.reported) (list_any (λ (watch : Watch). is_sought true watch && meets watch.pattern r.reported) watches)
    (is_known_met r w) (list_any (is_known_met r) watches)
    ∙ ap (λ b. b || (list_any (λ (watch : Watch). is_sought true watch && meets watch.pattern r.reported) watches || list_any (is_known_met r) watches)) (either w.span r (meets w.pattern r.reported))
    ∙ ap (λ b. is_met r w || b) (met_so watches r)

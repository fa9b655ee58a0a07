-- The lines of a script that are events', read once, are those that are found line by line.
use Rattle.std.proofs.Common.{◌≡◌, ℕ, ◌+◌, ◌==◌, ◌&&◌, ◌||◌, Bool, true, false, cond, List, [], ◌∷◌, nat_eq, refl, sym, ap, ◌∙◌}
use Rattle.std.specs.HashSet.{HashSet, Updates, contains}
use Rattle.expect_text.specs.Faults.{events_from, is_event_line, is_event_on}

or_not : (b : Bool) → (b || false) ≡ b
or_not true = refl
or_not false = refl

-- a line that is no event's
pub no_more : (a : Bool) (number other : ℕ) (line : List ℕ) → is_event_line line ≡ false → a ≡ (a || is_event_on number line other)
no_more a number other line none = sym (ap (λ b. a || (b && (number == other))) none ∙ or_not a)

-- one that is put
pub put : {S : Type 0} (number : ℕ) (line : List ℕ) (s n : HashSet ℕ S) → is_event_line line ≡ true → Updates nat_eq s n number true
    → (other : ℕ) → contains nat_eq n other ≡ (contains nat_eq s other || is_event_on number line other)
put number line s n is updates other =
    updates.0 other ∙ by (nat_eq number other) (contains nat_eq s other) ∙ ap (λ b. contains nat_eq s other || (b && (number == other))) (sym is)
  where
    by : (b c : Bool) → cond b true c ≡ (c || (true && b))
    by true true = refl
    by true false = refl
    by false true = refl
    by false false = refl

or_assoc : (a b c : Bool) → ((a || b) || c) ≡ (a || (b || c))
or_assoc true b c = refl
or_assoc false b c = refl

-- a line more
pub one_more : (a : Bool) (number other : ℕ) (line : List ℕ) (rest : List (List ℕ))
    → ((a || is_event_on number line other) || events_from (number + 1) rest other) ≡ (a || events_from number (line ∷ rest) other)
one_more a number other line rest = or_assoc a (is_event_on number line other) (events_from (number + 1) rest other)

pub all_noted : (a : Bool) (number other : ℕ) (lines : List (List ℕ)) → lines ≡ [] → (a || events_from number lines other) ≡ a
all_noted a number other lines none = ap (λ (ls : List (List ℕ)). a || events_from number ls other) none ∙ or_not a

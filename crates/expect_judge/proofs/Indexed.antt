-- The events at hand are those that are found one by one.
use Rattle.std.proofs.Common.{◌≡◌, ℕ, ◌==◌, Bool, true, false, cond, if◌then◌else◌, List, [], ◌∷◌, option_map, is_some, Option, Some, None, nat_eq, refl, sym, ap, ◌∙◌, subst, arith}
use Rattle.std.specs.HashMap.{HashMap, Updates, get}
use Rattle.std.proofs.lemmas.Bool.{false≢true}
use Rattle.std.proofs.lemmas.Bool.Decides.{nat_tests}
use Rattle.expect_judge.specs.Told.{EventLine, event_as, event_at}
use Rattle.expect_judge.specs.Named.{is_named}
use Rattle.expect_judge.specs.Index.{entry, event_on, or_event}
use Rattle.expect_judge.specs.declared.lines.EventLine.{EventLine as EventRead}

-- one event more
pub one_more : (number : ℕ) (before : Option EventLine) (e : EventLine) (events : List EventLine)
    → or_event (or_event before (event_on number e)) (event_at events number) ≡ or_event before (event_at (e ∷ events) number)
one_more number (Some first) e events = refl
one_more number None e events = by (e.line == number)
  where
    by : (b : Bool) → or_event (if b then Some e else None) (event_at events number) ≡ cond b (Some e) (event_at events number)
    by true = refl
    by false = refl

pub no_more : (number : ℕ) (before : Option EventLine) (events : List EventLine) → events ≡ [] → or_event before (event_at events number) ≡ before
no_more number None events none = ap (λ (es : List EventLine). event_at es number) none
no_more number (Some first) events none = refl

same : (a b : ℕ) → (a == b) ≡ true → a ≡ b
same a b h = grind (arith, nat_tests)

unless : (o : Option EventLine) → o ≡ or_event o None
unless None = refl
unless (Some x) = refl

-- an event that was put into the table
pub put_noted : {S : Type 0} (e : EventRead) (m n : HashMap ℕ EventRead S) → Updates nat_eq m n e.line (Some e) → is_some (get nat_eq m e.line) ≡ false
    → (number : ℕ) → entry n number ≡ or_event (entry m number) (event_on number (event_as e))
put_noted e m n updates empty number = ap (option_map event_as) (updates.0 number) ∙ by (e.line == number) refl
  where
    first : (o : Option EventRead) → is_some o ≡ false → Some (event_as e) ≡ or_event (option_map event_as o) (Some (event_as e))
    first None h = refl
    first (Some x) h = cc

    by : (b : Bool) → (e.line == number) ≡ b → option_map event_as (cond b (Some e) (get nat_eq m number)) ≡ or_event (entry m number) (if b then Some (event_as e) else None)
    by true k =
        subst (λ n. Some (event_as e) ≡ or_event (entry m n) (Some (event_as e))) (same e.line number k) (first (get nat_eq m e.line) empty)
    by false k = unless (entry m number)

there : (o : Option EventRead) (e : EventLine) → is_some o ≡ true → option_map event_as o ≡ or_event (option_map event_as o) (Some e)
there None e h = cc
there (Some x) e h = refl

-- an event that was not, since one of its line stands there
pub taken_noted : {S : Type 0} (e : EventRead) (m : HashMap ℕ EventRead S) → is_some (get nat_eq m e.line) ≡ true
    → (number : ℕ) → entry m number ≡ or_event (entry m number) (event_on number (event_as e))
taken_noted e m taken number = by (e.line == number) refl
  where
    by : (b : Bool) → (e.line == number) ≡ b → entry m number ≡ or_event (entry m number) (if b then Some (event_as e) else None)
    by true k = subst (λ n. entry m n ≡ or_event (entry m n) (Some (event_as e))) (same e.line number k) (there (get nat_eq m e.line) (event_as e) taken)
    by false k = unless (entry m number)

-- an event of a line without a label
pub unnamed : (script : List ℕ) (e : EventLine) (number : ℕ) (o : Option EventLine) → is_named script e.line ≡ false → is_named script number ≡ true → o ≡ or_event o (event_on number e)
unnamed script e number o none some = by (e.line == number) refl
  where
    by : (b : Bool) → (e.line == number) ≡ b → o ≡ or_event o (if b then Some e else None)
    by true k = absurd (false≢true (sym none ∙ ap (is_named script) (same e.line number k) ∙ some))
    by false k = unless o

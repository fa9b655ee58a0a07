-- What is handed out of a text of another system.
use Rattle.std.proofs.Common.{◌≡◌, ◌≢◌, ℕ, zero, suc, ◌+◌, ◌<◌, ◌≤◌, ◌==◌, ◌&&◌, min, Bool, true, false, not, cond, if◌then◌else◌, List, [], ◌∷◌, ◌++◌, length, drop, take, slice_index, slice_set, Option, Some, None, refl, sym, ap, ◌∙◌, append_assoc, arith, rules}
use Rattle.std.specs.List.{position_or_len}
use Rattle.std.specs.Io.KnownBytes.{IsAtEnd}
use Rattle.std.proofs.lemmas.Bool.Decides.{nat_tests}
use Rattle.std.proofs.lemmas.List.{take-append-drop}
use Rattle.program_input.specs.Plain.{ends_line, without_returns}
use Rattle.program_input.specs.PlainReading.{IsHanded, IsRun, plain_left, run_of}

-- what is no carriage return stays
kept : (b : ℕ) (bs : List ℕ) → (b == 13) ≡ false → without_returns (b ∷ bs) ≡ b ∷ without_returns bs
kept b bs e = ap (λ v. if v && ends_line bs then without_returns bs else b ∷ without_returns bs) e

-- a carriage return stays that ends no line, and one goes that ends a line
stays : (bs : List ℕ) → ends_line bs ≡ false → without_returns (13 ∷ bs) ≡ 13 ∷ without_returns bs
stays bs e = ap (λ v. if v then without_returns bs else 13 ∷ without_returns bs) e

goes : (bs : List ℕ) → ends_line bs ≡ true → without_returns (13 ∷ bs) ≡ without_returns bs
goes bs e = ap (λ v. if v then without_returns bs else 13 ∷ without_returns bs) e

-- what stands before the first carriage return stays
run_stays : (n : ℕ) (left xs : List ℕ) → n ≤ position_or_len (λ b. b == 13) left → without_returns (left ++ xs) ≡ take n left ++ without_returns (drop n left ++ xs)
run_stays zero left xs few = refl
run_stays (suc n) [] xs few = absurd (omega arith)
run_stays (suc n) (b ∷ left) xs few = at (b == 13) refl few (run_stays n left xs)
  where
    at : (v : Bool) → (b == 13) ≡ v → suc n ≤ cond (not v) (1 + position_or_len (λ b. b == 13) left) 0
        → (n ≤ position_or_len (λ b. b == 13) left → without_returns (left ++ xs) ≡ take n left ++ without_returns (drop n left ++ xs))
        → without_returns (b ∷ left ++ xs) ≡ b ∷ take n left ++ without_returns (drop n left ++ xs)
    at true e f more = absurd (omega arith)
    at false e f more = kept b (left ++ xs) e ∙ ap (λ l. b ∷ l) (more (omega arith))

-- a run of a text that is not at its end has a byte
some_run : (left : List ℕ) → slice_index left 0 ≢ 13 → 0 < length left → 0 < position_or_len (λ b. b == 13) left
some_run [] other some = absurd (omega arith)
some_run (b ∷ left) other some = at (b == 13) refl
  where
    at : (v : Bool) → (b == 13) ≡ v → 0 < cond (not v) (1 + position_or_len (λ b. b == 13) left) 0
    at true e = absurd (grind (arith, nat_tests))
    at false e = omega arith

-- a run is handed out of a text of which nothing is held back
run_is : (left xs after bytes : List ℕ) (count room : ℕ) → count ≡ min (position_or_len (λ b. b == 13) left) room → 0 < room → take count bytes ≡ take count left → after ≡ drop count left
    → slice_index left 0 ≢ 13 → (left ≡ [] → xs ≡ []) → (without_returns (left ++ xs) ≡ take count bytes ++ without_returns (after ++ xs)) × (count ≡ 0 → without_returns (after ++ xs) ≡ [])
run_is left xs after bytes count room is some same rest other end = (
  run_stays count left xs (omega arith) ∙ ap (λ l. l ++ without_returns (drop count left ++ xs)) (sym same) ∙ ap (λ l. take count bytes ++ without_returns (l ++ xs)) (sym rest),
  λ none. at left none is rest other end,
)
  where
    at : (left : List ℕ) → count ≡ 0 → count ≡ min (position_or_len (λ b. b == 13) left) room → after ≡ drop count left → slice_index left 0 ≢ 13 → (left ≡ [] → xs ≡ []) → without_returns (after ++ xs) ≡ []
    at [] none is rest other end = ap (λ l. without_returns (l ++ xs)) (rest ∙ ap (λ n. drop n []) none) ∙ ap without_returns (end refl)
    at (b ∷ l) none is rest other end = absurd (omega (arith, some_run (b ∷ l) other (omega arith)))

-- ---- the two ways in which a read ends

pub hand_is : (is_plain held : Bool) (left after bytes : List ℕ) (rest : Option (List ℕ)) (count room : ℕ) → count ≡ min (run_of is_plain left) room → 0 < room
    → take count bytes ≡ take count left → after ≡ drop count left → IsRun is_plain held left → (is_plain && held && not (ends_line left)) ≡ false → (left ≡ [] → IsAtEnd rest)
    → IsHanded (plain_left is_plain held left rest) (plain_left is_plain false after rest) bytes count
hand_is is_plain held left after bytes None count room is some same drops run ended end = (tt, λ none. tt)
hand_is false held left after bytes (Some xs) count room is some same drops run ended end = (
  ap (λ l. l ++ xs) (sym (take-append-drop count left)) ∙ append_assoc (take count left) (drop count left) xs ∙ ap (λ l. l ++ (drop count left ++ xs)) (sym same) ∙ ap (λ l. take count bytes ++ (l ++ xs)) (sym drops),
  λ none. nothing left none is drops end,
)
  where
    nothing : (left : List ℕ) → count ≡ 0 → count ≡ min (length left) room → after ≡ drop count left → (left ≡ [] → xs ≡ []) → after ++ xs ≡ []
    nothing [] none is drops end = ap (λ l. l ++ xs) (drops ∙ ap (λ n. drop n []) none) ∙ end refl
    nothing (b ∷ l) none is drops end = absurd (omega arith)
hand_is true false left after bytes (Some xs) count room is some same drops run ended end = run_is left xs after bytes count room is some same drops run end
hand_is true true [] after bytes (Some xs) count room is some same drops run ended end = search rules
hand_is true true (b ∷ left) after bytes (Some xs) count room is some same drops run ended end =
    let feed : (b == 10) ≡ true = line_feed (b == 10) ended in
    let other : b ≢ 13 = no_return b feed in
    let run = run_is (b ∷ left) xs after bytes count room is some same drops other end in
    (goes (b ∷ left ++ xs) feed ∙ run.0, run.1)
  where
    line_feed : (v : Bool) → not v ≡ false → v ≡ true
    line_feed true e = refl
    line_feed false e = absurd (search rules)

    no_return : (b : ℕ) → (b == 10) ≡ true → b ≢ 13
    no_return b feed = grind (arith, nat_tests)

pub given_is : (is_plain held : Bool) (left bytes : List ℕ) (rest : Option (List ℕ)) → (is_plain && held && not (ends_line left)) ≡ true → 0 < length bytes
    → IsHanded (plain_left is_plain held left rest) (plain_left is_plain false left rest) (slice_set bytes 0 13) 1
given_is is_plain held left bytes None given some = (tt, λ none. tt)
given_is false held left bytes (Some xs) given some = search rules
given_is true false left bytes (Some xs) given some = search rules
given_is true true [] bytes (Some xs) given some = search rules
given_is true true (b ∷ left) [] (Some xs) given some = absurd (omega arith)
given_is true true (b ∷ left) (x ∷ bytes) (Some xs) given some = (stays (b ∷ left ++ xs) (search rules), λ none. absurd (omega arith))

-- Lines of a text.
use Rattle.std.proofs.Common.{◌≡◌, ℕ, suc, ◌+◌, ◌-◌, ◌<◌, ◌≤◌, Bool, true, false, not, cond, List, [], ◌∷◌, length, take, drop, position, Some, None, ◌==◌, ◌∙◌, ap, refl, arith}
use Rattle.std.specs.List.{position_or_len}
use Rattle.std.proofs.lemmas.Grind.{common_steps}
use Rattle.edid_texts.specs.Cut.{lines_with_feeds, onto_line}

abbrev is_end : ℕ → Bool
is_end b = b == 10

found_at : (xs : List ℕ) (i : ℕ) → position (λ b. b == 10) xs ≡ Some i → (position_or_len (λ b. b == 10) xs ≡ i) × (i < length xs)
found_at xs i h = grind (arith, common_steps)

nowhere : (xs : List ℕ) → position (λ b. b == 10) xs ≡ None → length xs ≤ position_or_len (λ b. b == 10) xs
nowhere xs h = grind (arith, common_steps)

rest_of : (xs : List ℕ) (n : ℕ) → take (length xs - n) (drop n xs) ≡ drop n xs
rest_of xs n = grind (arith, common_steps)

cut_at : (xs : List ℕ) (i : ℕ) → position_or_len (λ b. b == 10) xs ≡ i → i < length xs → lines_with_feeds xs ≡ take (suc i) xs ∷ lines_with_feeds (drop (suc i) xs)
cut_at [] i e h = absurd (omega arith)
cut_at (x ∷ xs) i e h = cases (λ k. cut_at xs (position_or_len (λ b. b == 10) xs) refl k) (x == 10) i e h
  where
    cases : (position_or_len (λ b. b == 10) xs < length xs → lines_with_feeds xs ≡ take (suc (position_or_len (λ b. b == 10) xs)) xs ∷ lines_with_feeds (drop (suc (position_or_len (λ b. b == 10) xs)) xs))
        → (v : Bool) (i : ℕ) → cond (not v) (1 + position_or_len (λ b. b == 10) xs) 0 ≡ i → i < suc (length xs)
        → cond v ((x ∷ []) ∷ lines_with_feeds xs) (onto_line x (lines_with_feeds xs)) ≡ take (suc i) (x ∷ xs) ∷ lines_with_feeds (drop (suc i) (x ∷ xs))
    cases again true i e h = ap (λ k. take (suc k) (x ∷ xs) ∷ lines_with_feeds (drop (suc k) (x ∷ xs))) e
    cases again false i e h =
        let n = position_or_len (λ b. b == 10) xs in
        let m : suc n ≡ i = omega arith in
        let rest = again (omega arith) in
        ap (onto_line x) rest ∙ ap (λ k. take (suc k) (x ∷ xs) ∷ lines_with_feeds (drop (suc k) (x ∷ xs))) m

pub first_ended : (text : List ℕ) (i : ℕ) → position (λ b. b == 10) text ≡ Some i
    → lines_with_feeds text ≡ take (i + 1) text ∷ lines_with_feeds (drop (i + 1) text)
first_ended text i h =
    let at = found_at text i h in
    let one : suc i ≡ i + 1 = omega arith in
    cut_at text i at.0 at.1 ∙ ap (λ k. take k text ∷ lines_with_feeds (drop k text)) one

pub lines_some : (text : List ℕ) (i : ℕ) → position (λ b. b == 10) text ≡ Some i
    → lines_with_feeds text ≡ take (i + 1) text ∷ lines_with_feeds (take (length text - (i + 1)) (drop (i + 1) text))
lines_some text i h = rw rest_of (first_ended text i h)

alone : (xs : List ℕ) → length xs ≤ position_or_len (λ b. b == 10) xs → 0 < length xs → lines_with_feeds xs ≡ xs ∷ []
alone [] h some = absurd (omega arith)
alone (x ∷ []) h some = one (x == 10) h
  where
    one : (v : Bool) → 1 ≤ cond (not v) (1 + 0) 0 → cond v ((x ∷ []) ∷ []) ((x ∷ []) ∷ []) ≡ (x ∷ []) ∷ []
    one true h = absurd (omega arith)
    one false h = refl
alone (x ∷ y ∷ ys) h some = cases (λ k. alone (y ∷ ys) k (omega arith)) (x == 10) h
  where
    cases : (suc (length ys) ≤ position_or_len (λ b. b == 10) (y ∷ ys) → lines_with_feeds (y ∷ ys) ≡ (y ∷ ys) ∷ []) → (v : Bool) → suc (suc (length ys)) ≤ cond (not v) (1 + position_or_len (λ b. b == 10) (y ∷ ys)) 0
        → cond v ((x ∷ []) ∷ lines_with_feeds (y ∷ ys)) (onto_line x (lines_with_feeds (y ∷ ys))) ≡ (x ∷ y ∷ ys) ∷ []
    cases again true h = absurd (omega arith)
    cases again false h = ap (onto_line x) (again (omega arith))

pub lines_none : (text : List ℕ) → 0 < length text → position (λ b. b == 10) text ≡ None → lines_with_feeds text ≡ text ∷ []
lines_none text some h = alone text (nowhere text h) some

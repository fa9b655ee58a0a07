-- Groups of what is looked for.
use Rattle.std.proofs.Common.{◌≡◌, ℕ, zero, suc, ◌+◌, ◌≤◌, ◌&&◌, ◌||◌, Bool, true, false, List, [], ◌∷◌, ◌++◌, length, take, drop, map, Option, Some, None, refl, sym, ap, ◌∙◌, arith, append_assoc, append-nil}
use Rattle.std.specs.List.{flat_map, list_any}
use Rattle.std.proofs.lemmas.Bool.{false≢true}
use Rattle.std.proofs.lemmas.Grind.{common_steps}
use Rattle.std.proofs.lemmas.List.{map-append}
use Rattle.std.proofs.lemmas.List.Folds.{list_any-append}
use Rattle.expect_text.specs.Names.{meets}
use Rattle.expect_judge.specs.Told.{RoundLine}
use Rattle.expect_judge.specs.declared.seen.TimeSpan.{TimeSpan}
use Rattle.expect_run.specs.Kept.{Watch, is_within, watch_as}
use Rattle.expect_run.specs.Groups.{hull_from, is_known_met, is_known_within, no_span, widened}
use Rattle.expect_run.specs.declared.group.Group.{Group}
use Rattle.expect_run.specs.declared.watch.Watch.{Watch as WatchRead}

-- ---- the span of a group

still_in : (hull span : TimeSpan) (r : RoundLine) → is_within (Some hull) r ≡ true → is_within (Some (widened hull (Some span))) r ≡ true
still_in hull span r h = grind (arith, common_steps)

also_in : (hull span : TimeSpan) (r : RoundLine) → is_within (Some span) r ≡ true → is_within (Some (widened hull (Some span))) r ≡ true
also_in hull span r h = grind (arith, common_steps)

in_wider : (hull : TimeSpan) (o : Option TimeSpan) (r : RoundLine) → is_within (Some hull) r ≡ true → is_within (Some (widened hull o)) r ≡ true
in_wider hull None r h = h
in_wider hull (Some span) r h = still_in hull span r h

known_in : (hull : TimeSpan) (o : Option TimeSpan) (r : RoundLine) → is_known_within o r ≡ true → is_within (Some (widened hull o)) r ≡ true
known_in hull None r h = absurd (false≢true h)
known_in hull (Some span) r h = also_in hull span r h

in_all : (hull : TimeSpan) (watches : List Watch) (r : RoundLine) → is_within (Some hull) r ≡ true → is_within (Some (hull_from hull watches)) r ≡ true
in_all hull [] r h = h
in_all hull (w ∷ watches) r h = in_all (widened hull w.span) watches r (in_wider hull w.span r h)

left_and : (a b : Bool) → (a && b) ≡ true → a ≡ true
left_and true b h = refl
left_and false b h = h

met_in : (hull : TimeSpan) (watches : List Watch) (r : RoundLine) → list_any (is_known_met r) watches ≡ true → is_within (Some (hull_from hull watches)) r ≡ true
met_in hull [] r h = absurd (false≢true h)
met_in hull (w ∷ watches) r h = by (is_known_met r w) refl h (λ k. met_in (widened hull w.span) watches r k)
  where
    by : (b : Bool) → is_known_met r w ≡ b → (b || list_any (is_known_met r) watches) ≡ true
        → (list_any (is_known_met r) watches ≡ true → is_within (Some (hull_from (widened hull w.span) watches)) r ≡ true) → is_within (Some (hull_from (widened hull w.span) watches)) r ≡ true
    by true e k more = in_all (widened hull w.span) watches r (known_in hull w.span r (left_and (is_known_within w.span r) (meets w.pattern r.reported) e))
    by false e k more = more k

-- a round outside it meets none
pub none_in : (hull : TimeSpan) (watches : List Watch) (r : RoundLine) → hull ≡ hull_from no_span watches → is_within (Some hull) r ≡ false → list_any (is_known_met r) watches ≡ false
none_in hull watches r is h = by (list_any (is_known_met r) watches) refl
  where
    by : (b : Bool) → list_any (is_known_met r) watches ≡ b → b ≡ false
    by true e = absurd (false≢true (sym h ∙ ap (λ (s : TimeSpan). is_within (Some s) r) is ∙ met_in no_span watches r e))
    by false e = refl

-- ---- groups

abbrev watches_in : Group → List Watch
watches_in g = map watch_as g.watches.items

flat_more : (groups : List Group) (g : Group) → flat_map watches_in (groups ++ g ∷ []) ≡ flat_map watches_in groups ++ watches_in g
flat_more [] g = append-nil (watches_in g)
flat_more (first ∷ groups) g = ap (λ (ws : List Watch). watches_in first ++ ws) (flat_more groups g) ∙ sym (append_assoc (watches_in first) (flat_map watches_in groups) (watches_in g))

take_length : {X : Type 0} (n : ℕ) (xs : List X) → take n xs ++ drop (length (take n xs)) xs ≡ xs
take_length zero xs = refl
take_length (suc n) [] = refl
take_length (suc n) (x ∷ xs) = ap (λ ys. x ∷ ys) (take_length n xs)

parted : {X : Type 0} (front xs : List X) (n : ℕ) → front ≡ take n xs → xs ≡ front ++ drop (length front) xs
parted front xs n is = sym (ap (λ ys. ys ++ drop (length ys) xs) is ∙ take_length n xs)

none_first : (n : ℕ) → 0 + n ≡ n
none_first n = omega arith

one_first : (m n : ℕ) → suc m + n ≡ suc (m + n)
one_first m n = omega arith

drop_more : {X : Type 0} (m n : ℕ) (xs : List X) → drop (m + n) xs ≡ drop n (drop m xs)
drop_more {X} zero n xs = ap (λ k. drop k xs) (none_first n)
drop_more {X} (suc m) zero [] = ap (λ k. drop {A = X} k []) (one_first m zero)
drop_more {X} (suc m) (suc n) [] = ap (λ k. drop {A = X} k []) (one_first m (suc n))
drop_more {X} (suc m) n (x ∷ xs) = ap (λ k. drop k (x ∷ xs)) (one_first m n) ∙ drop_more m n xs

-- one group more
pub one_more : (old new : List Group) (g : Group) (front rest watches : List WatchRead) (start count : ℕ) (goal : List Watch) → new ≡ old ++ g ∷ [] → map watch_as g.watches.items ≡ map watch_as front
    → rest ≡ drop start watches → front ≡ take count rest
    → flat_map (λ group. map watch_as group.watches.items) old ++ map watch_as (drop start watches) ≡ goal
    → flat_map (λ group. map watch_as group.watches.items) new ++ map watch_as (drop (start + length front) watches) ≡ goal
one_more old new g front rest watches start count goal made own left is before =
    ap (λ (gs : List Group). flat_map watches_in gs ++ map watch_as (drop (start + length front) watches)) made
    ∙ ap (λ (ws : List Watch). ws ++ map watch_as (drop (start + length front) watches)) (flat_more old g ∙ ap (λ (ws : List Watch). flat_map watches_in old ++ ws) own)
    ∙ append_assoc (flat_map watches_in old) (map watch_as front) (map watch_as (drop (start + length front) watches))
    ∙ ap (λ (ws : List Watch). flat_map watches_in old ++ ws)
    (ap (λ (ws : List WatchRead). map watch_as front ++ map watch_as ws) (drop_more start (length front) watches) ∙ sym (map-append watch_as front (drop (length front) (drop start watches)))
    ∙ ap (map watch_as) (sym (parted front (drop start watches) count (is ∙ ap (take count) left))))
    ∙ before

pub no_more : (groups : List Group) (watches : List WatchRead) (start : ℕ) (goal : List Watch) → length watches ≤ start
    → flat_map (λ group. map watch_as group.watches.items) groups ++ map watch_as (drop start watches) ≡ goal → flat_map (λ group. map watch_as group.watches.items) groups ≡ goal
no_more groups watches start goal all before =
    sym (ap (λ (ws : List WatchRead). flat_map watches_in groups ++ map watch_as ws) (none_left start watches all) ∙ append-nil (flat_map watches_in groups)) ∙ before
  where
    none_left : (n : ℕ) (xs : List WatchRead) → length xs ≤ n → drop n xs ≡ []
    none_left zero [] h = refl
    none_left (suc n) [] h = refl
    none_left zero (x ∷ xs) h = absurd (omega (arith, h))
    none_left (suc n) (x ∷ xs) h = none_left n xs (omega (arith, h))

-- a round meets one of the first group, or one of those after it
pub met_here : (r : RoundLine) (g : Group) (groups : List Group) → list_any (is_known_met r) (map watch_as g.watches.items) ≡ true
    → list_any (is_known_met r) (map watch_as g.watches.items ++ flat_map (λ group. map watch_as group.watches.items) groups) ≡ true
met_here r g groups h = list_any-append (is_known_met r) (watches_in g) (flat_map watches_in groups) ∙ ap (λ b. b || list_any (is_known_met r) (flat_map watches_in groups)) h

pub met_later : (r : RoundLine) (g : Group) (groups : List Group) → list_any (is_known_met r) (map watch_as g.watches.items) ≡ false
    → list_any (is_known_met r) (map watch_as g.watches.items ++ flat_map (λ group. map watch_as group.watches.items) groups) ≡ list_any (is_known_met r) (flat_map (λ group. map watch_as group.watches.items) groups)
met_later r g groups h = list_any-append (is_known_met r) (watches_in g) (flat_map watches_in groups) ∙ ap (λ b. b || list_any (is_known_met r) (flat_map watches_in groups)) h

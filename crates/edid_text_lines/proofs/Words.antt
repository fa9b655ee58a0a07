-- Words and what stands after them.
use Rattle.std.proofs.Common.{◌≡◌, ℕ, ◌+◌, ◌-◌, ◌%◌, ◌^◌, ◌<◌, ◌≤◌, ◌==◌, Bool, true, false, not, nat_lt, List, [], ◌∷◌, ◌++◌, length, take, drop, position, flat_map, Some, None, ap, arith, refl, sym, ◌∙◌, append_assoc, length-append, append-nil}
use Rattle.std.specs.Fmt.{decimal}
use Rattle.std.specs.List.{position_or_len, list_all}
use Rattle.std.specs.Str.{bytes_eq}
use Rattle.std.proofs.lemmas.Grind.{common_steps}
use Rattle.std.proofs.lemmas.Bool.{and_parts, eqb-true, ltb-true}
use Rattle.std.proofs.lemmas.Fmt.{decimal_by_steps}
use borrow.Author.Tests.{tests}
use Rattle.edid_text_lines.specs.Text.{number_text}
use Rattle.edid_text_lines.specs.Formed.{is_spaceless, BeginsSpaced, are_numbers}

-- none of some characters is this one
abbrev pub without : ℕ → List ℕ → Bool
without k xs = list_all (λ c. not (c == k)) xs

pub without-append : (k : ℕ) (xs ys : List ℕ) → without k xs ≡ true → without k ys ≡ true → without k (xs ++ ys) ≡ true
without-append k [] ys h g = g
without-append k (x ∷ xs) ys h g = let p = and_parts (not (x == k)) (without k xs) h in rw p.0 (without-append k xs ys p.1 g)

other : (k c : ℕ) → k < 48 → 48 ≤ c → not (c == k) ≡ true
other k c h g = let e : (c == k) ≡ false = grind (arith, tests) in ap not e

one_without : (k c : ℕ) → k < 48 → 48 ≤ c → without k (c ∷ []) ≡ true
one_without k c h g = rw (other k c h g) refl

pub without_decimal : (k n : ℕ) → k < 48 → n < 2 ^ 64 → without k (decimal n) ≡ true
without_decimal k n h fits =
    decimal_by_steps (λ n ds. without k ds ≡ true) (λ n small. one_without k (48 + n) h (omega arith))
    (λ n ds large rest. without-append k ds ((48 + n % 10) ∷ []) rest (one_without k (48 + n % 10) h (omega arith))) n fits

-- where the first space stands
pub cut_at : (w t : List ℕ) → is_spaceless w ≡ true → BeginsSpaced t → position_or_len (λ b. b == 32) (w ++ t) ≡ length w
cut_at [] [] h b = refl
cut_at [] (c ∷ cs) h b = let e : (c == 32) ≡ true = ap (λ n. n == 32) b in rw e refl
cut_at (x ∷ w) t h b =
    let p = and_parts (not (x == 32)) (is_spaceless w) h in
    let e = is_false (x == 32) p.0 in
    let rest = cut_at w t p.1 b in
    rw (e, rest) (omega arith)
  where
    is_false : (v : Bool) → not v ≡ true → v ≡ false
    is_false true h = cc
    is_false false h = refl

found_at : (xs : List ℕ) (i : ℕ) → position (λ b. b == 32) xs ≡ Some i → (position_or_len (λ b. b == 32) xs ≡ i) × (i < length xs)
found_at xs i h = grind (arith, common_steps)

nowhere : (xs : List ℕ) → position (λ b. b == 32) xs ≡ None → length xs ≤ position_or_len (λ b. b == 32) xs
nowhere xs h = grind (arith, common_steps)

pub take_front : (xs ys : List ℕ) → take (length xs) (xs ++ ys) ≡ xs
take_front [] ys = refl
take_front (x ∷ xs) ys = ap (λ t. x ∷ t) (take_front xs ys)

drop_front : (xs ys : List ℕ) → drop (length xs) (xs ++ ys) ≡ ys
drop_front [] ys = refl
drop_front (x ∷ xs) ys = drop_front xs ys

rest_of : (xs : List ℕ) (n : ℕ) → take (length xs - n) (drop n xs) ≡ drop n xs
rest_of xs n = grind (arith, common_steps)

nothing : (xs : List ℕ) → length xs ≤ 0 → xs ≡ []
nothing [] h = refl
nothing (x ∷ xs) h = absurd (omega arith)

pub next_none : (w t text : List ℕ) → is_spaceless w ≡ true → BeginsSpaced t → w ++ t ≡ text → position (λ b. b == 32) text ≡ None → (text ≡ w) × ([] ≡ t)
next_none w t text h b e p =
    let far = nowhere text p in
    let at = ap (position_or_len (λ b. b == 32)) (sym e) ∙ cut_at w t h b in
    let len = ap length e in
    let none = nothing t (omega (arith, far, at, len, length-append w t)) in
    (sym e ∙ ap (λ x. w ++ x) none ∙ append-nil w, sym none)

pub next_some : (w t text : List ℕ) (i : ℕ) → is_spaceless w ≡ true → BeginsSpaced t → w ++ t ≡ text → position (λ b. b == 32) text ≡ Some i
    → (take i text ≡ w) × (take (length text - i) (drop i text) ≡ t)
next_some w t text i h b e p =
    let found = found_at text i p in
    let at : i ≡ length w = sym found.0 ∙ ap (position_or_len (λ b. b == 32)) (sym e) ∙ cut_at w t h b in (
      ap (λ n. take n text) at ∙ ap (take (length w)) (sym e) ∙ take_front w t,
      rest_of text i ∙ ap (λ n. drop n text) at ∙ ap (drop (length w)) (sym e) ∙ drop_front w t,
    )

-- what is left to be read of some numbers
pub record Left (done ns t rest : List ℕ) : Type 0 where
  pub ms : List ℕ
  pub split : ns ≡ done ++ ms
  pub spelled : flat_map number_text ms ++ t ≡ rest

pub record Next (done ns t rest : List ℕ) : Type 0 where
  pub m : ℕ
  pub ms : List ℕ
  pub fits : m < 2 ^ 32
  pub solid : is_spaceless (decimal m) ≡ true
  pub begins : BeginsSpaced (flat_map number_text ms ++ t)
  pub split : ns ≡ done ++ m ∷ ms
  pub spelled : 32 ∷ (decimal m ++ (flat_map number_text ms ++ t)) ≡ rest

begins_so : (ms t : List ℕ) → BeginsSpaced t → BeginsSpaced (flat_map number_text ms ++ t)
begins_so [] t h = h
begins_so (m ∷ ms) t h = refl

numbers_after : (xs ys : List ℕ) → are_numbers (xs ++ ys) ≡ true → are_numbers ys ≡ true
numbers_after [] ys h = h
numbers_after (x ∷ xs) ys h = numbers_after xs ys (and_parts (nat_lt x (2 ^ 32)) (are_numbers (xs ++ ys)) h).1

pub left_first : (done ns t text : List ℕ) → done ≡ [] → flat_map number_text ns ++ t ≡ text → Left done ns t text
left_first done ns t text e h = record { ms = ns; split = ap (λ x. x ++ ns) (sym e); spelled = h }

pub next_of : (done ns t rest : List ℕ) (i count : ℕ) → Left done ns t rest → length done ≡ i → i < count → length ns ≡ count → are_numbers ns ≡ true → BeginsSpaced t → Next done ns t rest
next_of done ns t rest i count l len less all fit b = go l.ms l.split l.spelled
  where
    go : (ms : List ℕ) → ns ≡ done ++ ms → flat_map number_text ms ++ t ≡ rest → Next done ns t rest
    go [] e f = let n = ap length e in absurd (omega (arith, n, length-append done [], len, less, all))
    go (m ∷ ms) e f =
        let small = ltb-true _ _ (and_parts (nat_lt m (2 ^ 32)) (are_numbers ms) (numbers_after done (m ∷ ms) (ap are_numbers (sym e) ∙ fit))).0 in
        record {
          m = m;
          ms = ms;
          fits = small;
          solid = without_decimal 32 m (omega arith) (omega (arith, small));
          begins = begins_so ms t b;
          split = e;
          spelled = sym (ap (λ x. 32 ∷ x) (append_assoc (decimal m) (flat_map number_text ms) t)) ∙ f;
        }

pub left_more : (done new ns t rest more : List ℕ) (n : ℕ) → (x : Next done ns t rest) → n ≡ x.m → more ≡ flat_map number_text x.ms ++ t → new ≡ done ++ n ∷ [] → Left new ns t more
left_more done new ns t rest more n x e f g = record {
  ms = x.ms;
  split = x.split ∙ sym (append_assoc done (x.m ∷ []) x.ms) ∙ ap (λ k. (done ++ k ∷ []) ++ x.ms) (sym e) ∙ ap (λ y. y ++ x.ms) (sym g);
  spelled = sym f;
}

pub left_none : (done ns t rest : List ℕ) (i count : ℕ) → Left done ns t rest → length done ≡ i → count ≤ i → length ns ≡ count → (done ≡ ns) × (rest ≡ t)
left_none done ns t rest i count l len past all = go l.ms l.split l.spelled
  where
    go : (ms : List ℕ) → ns ≡ done ++ ms → flat_map number_text ms ++ t ≡ rest → (done ≡ ns) × (rest ≡ t)
    go [] e f = (sym (e ∙ append-nil done), sym f)
    go (m ∷ ms) e f = let n = ap length e in absurd (omega (arith, n, length-append done (m ∷ ms), len, past, all))

pub after_space : (rest x : List ℕ) → 32 ∷ x ≡ rest → x ≡ take (length rest - 1) (drop 1 rest)
after_space rest x e = sym (rest_of rest 1 ∙ ap (drop 1) (sym e))

-- a detailed timing's numbers and flags
pub begins_flags : (text rest : List ℕ) → rest ≡ 32 ∷ text → 0 < length rest
begins_flags text rest e = let len = ap length e in omega (arith, len)

pub same_bytes : (xs ys : List ℕ) → bytes_eq xs ys ≡ true → xs ≡ ys
same_bytes [] [] h = refl
same_bytes [] (y ∷ ys) h = cc
same_bytes (x ∷ xs) [] h = cc
same_bytes (x ∷ xs) (y ∷ ys) h =
    let p = and_parts (x == y) (bytes_eq xs ys) h in
    let first = eqb-true x y p.0 in let others = same_bytes xs ys p.1 in cc

-- What `as_source` gives is as a source takes it.
use Rattle.std.proofs.Common.{◌≡◌, refl, ◌∙◌, sym, ap, subst, ℕ, zero, suc, ◌+◌, ◌-◌, ◌*◌, ◌/◌, ◌%◌, ◌<◌, ◌≤◌, ◌==◌, Bool, true, false, ◌&&◌, nat_le, nat_lt, cond, not, arith, List, [], ◌∷◌, ◌++◌, length, get_or, sum, take, drop, Some, None, Ok, Err, append_assoc, take_at, drop-drop, length-append, lit≤, eq-eqb}
use Rattle.std.proofs.lemmas.Bool.{and_parts}
use Rattle.std.proofs.lemmas.List.{get_or-append_right, get_or_append_left, length-take-le, take-append-drop, take-append-le}
use borrow.Author.Tests.{tests}
use Rattle.edid_base.proofs.Accepted.{summed_is}
use Rattle.edid_base.specs.Check.{block_with_checksum, check_of}
use Rattle.edid_base.specs.Header.{header}
use Rattle.edid_base.specs.Letters.{has_letters}
use Rattle.edid_base.specs.declared.base.BaseError.TheVariants.{Checksum, Revision}
use Rattle.edid_core.proofs.Lengths.{length_is}
use Rattle.edid_core.specs.declared.bytes.EdidError.TheVariants.{Count, Length}
use Rattle.edid_as_source.specs.Count.{balance, begins_with_override, counted, extension_count, has_override, with_count}
use Rattle.edid_as_source.specs.Extensions.{blocks_taken, overridden, with_override}
use Rattle.edid_as_source.specs.Front.{mended_block, mended_letter, mended_maker, mended_revision}
use Rattle.edid_as_source.specs.Notes.{blocks_notes, count_by, count_note, header_note, maker_by, maker_note, notes_by, notes_text, rest_by, rest_note, revision_by, revision_note}
use Rattle.edid_as_source.specs.Source.{as_source, base_refusal, refusal, refusal_after, source_by, source_bytes, with_extensions}
use Rattle.edid_as_source.proofs.Fronts.{block_len, count_at, display_len, front_len, front_of, letter, maker_lettered, product_len, rest_len, rest_of, revision_at, version_at}
use Rattle.edid_as_source.proofs.Made.{made}
use Rattle.edid_as_source.proofs.Taken.{AreKept, begun_long, drop_at, kept_len, kept_silent, kept_taken}

-- ---- the maker and the revision

letter_stays : (n : ℕ) → mended_letter (mended_letter n) ≡ mended_letter n
letter_stays n = by (nat_le 1 n && nat_le n 26) refl
  where
    by : (v : Bool) → (nat_le 1 n && nat_le n 26) ≡ v → mended_letter (cond v n 24) ≡ cond v n 24
    by true e = ap (λ v. cond v n 24) e
    by false e = refl

abbrev maker_of : ℕ → ℕ → ℕ → List ℕ
maker_of x y z = (x * 4 + y / 8) ∷ (y % 8 * 32 + z) ∷ []

three_letters : (x y z p q r : ℕ) → p ≡ x → q ≡ y → r ≡ z → maker_of p q r ≡ maker_of x y z
three_letters x y z p q r e f g = rw (e, f, g) refl

maker_by_letters : (x y z : ℕ) → x ≤ 26 → y ≤ 26 → z ≤ 26 → mended_letter x ≡ x → mended_letter y ≡ y → mended_letter z ≡ z
    → mended_maker (x * 4 + y / 8) (y % 8 * 32 + z) ≡ maker_of x y z
maker_by_letters x y z hx hy hz ex ey ez =
    let a : (x * 4 + y / 8) / 4 % 32 ≡ x = omega arith in
    let b : (x * 4 + y / 8) % 4 * 8 + (y % 8 * 32 + z) / 32 ≡ y = omega arith in
    let c : (y % 8 * 32 + z) % 32 ≡ z = omega arith in
    three_letters x y z _ _ _ (ap mended_letter a ∙ ex) (ap mended_letter b ∙ ey) (ap mended_letter c ∙ ez)

maker_stays : (x y z : ℕ)
    → mended_maker (mended_letter x * 4 + mended_letter y / 8) (mended_letter y % 8 * 32 + mended_letter z) ≡ maker_of (mended_letter x) (mended_letter y) (mended_letter z)
maker_stays x y z =
    maker_by_letters (mended_letter x) (mended_letter y) (mended_letter z) (letter x).1 (letter y).1 (letter z).1 (letter_stays x) (letter_stays y) (letter_stays z)

revision_stays : (r : ℕ) → mended_revision (mended_revision r) ≡ mended_revision r
revision_stays r = by (nat_le r 3)
  where
    by : (v : Bool) → mended_revision (cond v 3 4) ≡ cond v 3 4
    by true = refl
    by false = refl

-- ---- the base block

part_at : (p x c t : List ℕ) (n : ℕ) → length p ≡ n → take n (((p ++ x) ++ c) ++ t) ≡ p
part_at p x c t n len = ap (take n) (append_assoc (p ++ x) c t ∙ append_assoc p x (c ++ t)) ∙ take_at p (x ++ (c ++ t)) n len

-- ten bytes on, past eight bytes and two more
later_at : (p d n c t : List ℕ) (v r : ℕ) → length p ≡ 8 → length d ≡ 106 → take 106 (drop 10 (((p ++ (v ∷ r ∷ (d ++ n))) ++ c) ++ t)) ≡ d
later_at p d n c t v r size len =
    let whole = append_assoc (p ++ (v ∷ r ∷ (d ++ n))) c t ∙ append_assoc p (v ∷ r ∷ (d ++ n)) (c ++ t) in
    ap (λ l. take 106 (drop 10 l)) whole
    ∙ ap (take 106) (sym (drop-drop 2 8 (p ++ ((v ∷ r ∷ (d ++ n)) ++ (c ++ t)))))
    ∙ ap (λ l. take 106 (drop 2 l)) (drop_at p ((v ∷ r ∷ (d ++ n)) ++ (c ++ t)) 8 size)
    ∙ ap (take 106) (append_assoc d n (c ++ t))
    ∙ take_at d (n ++ (c ++ t)) 106 len

five_parts : (m p d m' p' d' : List ℕ) (r r' n : ℕ) → m ≡ m' → p ≡ p' → r ≡ r' → d ≡ d'
    → header ++ (m ++ (p ++ (1 ∷ r ∷ (d ++ (n ∷ []))))) ≡ header ++ (m' ++ (p' ++ (1 ∷ r' ∷ (d' ++ (n ∷ [])))))
five_parts m p d m' p' d' r r' n a b e f = rw (a, b, e, f) refl

front_stays : (b t : List ℕ) (n : ℕ) → 128 ≤ length b → front_of (mended_block b n ++ t) n ≡ front_of b n
front_stays b t n h =
    five_parts _ _ _ (mended_maker (get_or b 8 0) (get_or b 9 0)) (take 8 (drop 10 b)) (take 106 (drop 20 b)) _ (mended_revision (get_or b 19 0)) n
    (maker_stays (get_or b 8 0 / 4 % 32) (get_or b 8 0 % 4 * 8 + get_or b 9 0 / 32) (get_or b 9 0 % 32))
    (part_at (take 8 (drop 10 b)) (1 ∷ mended_revision (get_or b 19 0) ∷ (take 106 (drop 20 b) ++ (n ∷ []))) (check_of (front_of b n) ∷ []) t 8 (product_len b h))
    (ap mended_revision (get_or_append_left (mended_block b n) t 0 19 (omega (arith, block_len b n h)) ∙ revision_at b n h) ∙ revision_stays (get_or b 19 0))
    (later_at (take 8 (drop 10 b)) (take 106 (drop 20 b)) (n ∷ []) (check_of (front_of b n) ∷ []) t 1 (mended_revision (get_or b 19 0)) (product_len b h) (display_len b h))

block_stays : (b t : List ℕ) (n : ℕ) → 128 ≤ length b → mended_block (mended_block b n ++ t) n ≡ mended_block b n
block_stays b t n h = ap block_with_checksum (front_stays b t n h)

-- its last 120 bytes
back_at : (b t : List ℕ) (n : ℕ) → 128 ≤ length b → header ++ take 120 (drop 8 (mended_block b n ++ t)) ≡ mended_block b n
back_at b t n h =
    let back : List ℕ = (mended_maker (get_or b 8 0) (get_or b 9 0) ++ rest_of b n) ++ (check_of (front_of b n) ∷ []) in
    let size : length back ≡ 120 = omega (arith, rest_len b n h, length-append (rest_of b n) (check_of (front_of b n) ∷ [])) in
    ap (λ l. header ++ l) (take_at back t 120 size)

no_refusal : (s v : Bool) → s ≡ true → v ≡ true → cond (not s) (Some Checksum) (cond (not v) (Some Revision) None) ≡ None
no_refusal s v e f = rw (e, f) refl

base_taken : (b t : List ℕ) (n : ℕ) → 128 ≤ length b → base_refusal (mended_block b n ++ t) ≡ None
base_taken b t n h =
    no_refusal _ _ (eq-eqb _ _ (ap (λ l. sum l % 256) (back_at b t n h) ∙ summed_is (front_of b n)))
    (eq-eqb _ _ (get_or_append_left (mended_block b n) t 0 18 (omega (arith, block_len b n h)) ∙ version_at b n h))

-- ---- the count

place_of_count : (block taken : List ℕ) (n : ℕ) → 128 ≤ length taken → get_or (with_override n taken ++ block) 6 0 ≡ n
place_of_count block taken n h =
    let six = length-take-le 6 taken (omega (arith, h)) in
    let later = take 120 (drop 7 taken) in
    let check = check_of (take 6 taken ++ (n ∷ later)) ∷ [] in
    ap (λ l. get_or l 6 0) (append_assoc (take 6 taken ++ (n ∷ later)) check block ∙ append_assoc (take 6 taken) (n ∷ later) (check ++ block))
    ∙ get_or-append_right (take 6 taken) ((n ∷ later) ++ (check ++ block)) 6 6 0 six (lit≤ tt)

says : (n : ℕ) (taken : List ℕ) → begins_with_override (overridden n taken) ≡ true → get_or (overridden n taken) 6 0 ≡ n
says n taken h = by (begins_with_override taken) refl h
  where
    by : (v : Bool) → begins_with_override taken ≡ v → begins_with_override (cond v (with_override n taken ++ drop 128 taken) taken) ≡ true
        → get_or (cond v (with_override n taken ++ drop 128 taken) taken) 6 0 ≡ n
    by true e f = place_of_count (drop 128 taken) taken n (begun_long taken e)
    by false e f = absurd (let both : false ≡ true = sym e ∙ f in cc)

-- an override that begins the blocks after a mended base block counts as that does
abbrev Counts : ℕ → List ℕ → Type 0
Counts n t = begins_with_override t ≡ true → get_or t 6 0 ≡ n

first_at : (b t : List ℕ) (n : ℕ) → 128 ≤ length b → get_or (mended_block b n ++ t) 126 0 ≡ n
first_at b t n h = get_or_append_left (mended_block b n) t 0 126 (omega (arith, block_len b n h)) ∙ count_at b n h

counts : (b t : List ℕ) (n : ℕ) → 128 ≤ length b → Counts n t → extension_count (mended_block b n ++ t) ≡ n
counts b t n h c = by (has_override (mended_block b n ++ t)) refl
  where
    size : length (mended_block b n) ≡ 128
    size = block_len b n h

    by : (v : Bool) → has_override (mended_block b n ++ t) ≡ v → cond v (get_or (mended_block b n ++ t) 134 0) (get_or (mended_block b n ++ t) 126 0) ≡ n
    by true e =
        let begun = (and_parts (nat_le 1 (get_or (mended_block b n ++ t) 126 0)) _ e).1 in
        get_or-append_right (mended_block b n) t 128 134 0 size (lit≤ tt) ∙ c (subst (λ l. begins_with_override l ≡ true) (drop_at (mended_block b n) t 128 size) begun)
    by false e = first_at b t n h

-- ---- the extensions

parts : (i m : ℕ) (xs : List ℕ) → i < length xs → take i xs ++ (get_or xs i 0 ∷ take m (drop (suc i) xs)) ≡ take (suc (i + m)) xs
parts i m [] h = absurd (omega (arith, h))
parts zero m (x ∷ xs) h = let same : m ≡ 0 + m = omega arith in ap (λ j. x ∷ take j xs) same
parts (suc i) m (x ∷ xs) h =
    let same : suc (i + m) ≡ suc i + m = omega arith in
    ap (λ ys. x ∷ ys) (parts i m xs (omega (arith, h)) ∙ ap (λ j. take j xs) same)

overridden_stays : (n : ℕ) (t : List ℕ) → AreKept n t → Counts n t → overridden n t ≡ t
overridden_stays zero t k c = by (begins_with_override t) refl
  where
    by : (v : Bool) → begins_with_override t ≡ v → cond v (with_override 0 t ++ drop 128 t) t ≡ t
    by true e = absurd (let none : length t ≡ 0 = ap length k in omega (arith, none, begun_long t e))
    by false e = refl
overridden_stays (suc n) t k c = by (begins_with_override t) refl
  where
    front : 128 ≤ length t → take 6 t ++ (get_or t 6 0 ∷ take 120 (drop 7 t)) ≡ take 127 (take 128 t)
    front h =
        parts 6 120 t (omega (arith, h)) ∙ ap (take 127) (sym (take-append-drop 128 t)) ∙ take-append-le 127 (take 128 t) (drop 128 t) (omega (arith, length-take-le 128 t h))

    by : (v : Bool) → begins_with_override t ≡ v → cond v (with_override (suc n) t ++ drop 128 t) t ≡ t
    by true e =
        ap (λ j. block_with_checksum (take 6 t ++ (j ∷ take 120 (drop 7 t))) ++ drop 128 t) (sym (c e))
        ∙ ap (λ f. block_with_checksum f ++ drop 128 t) (front k.0)
        ∙ ap (λ f. f ++ drop 128 t) k.1.1
        ∙ take-append-drop 128 t
    by false e = refl

-- ---- no refusal

taken_again : (b t : List ℕ) (n : ℕ) → 128 ≤ length b → AreKept n t → Counts n t → refusal (mended_block b n ++ t) ≡ None
taken_again b t n h k c =
    let m : List ℕ = mended_block b n ++ t in
    let len : length (mended_block b n ++ t) ≡ 128 * n + 128 = omega (arith, length-append (mended_block b n) t, block_len b n h, kept_len n t k) in
    let short : nat_lt (length (mended_block b n ++ t)) 128 ≡ false = grind (arith, tests, len) in
    let there : nat_lt (length (mended_block b n ++ t)) (128 * n + 128) ≡ false = grind (arith, tests, len) in
    let long = ap (λ j. nat_lt (length m) (128 * j + 128)) (counts b t n h c) ∙ there in
    ap (λ v. cond v (Some Length) (refusal_after m (base_refusal m))) short ∙ ap (refusal_after m) (base_taken b t n h) ∙ ap (λ v. cond v (Some Count) None) long

source_stays : (b t : List ℕ) (n : ℕ) → 128 ≤ length b → n ≤ 3 → AreKept n t → Counts n t → source_bytes (mended_block b n ++ t) ≡ mended_block b n ++ t
source_stays b t n h few k c =
    let m : List ℕ = mended_block b n ++ t in
    let others = drop_at (mended_block b n) t 128 (block_len b n h) in
    let size : length t / 128 ≡ n = omega (arith, kept_len n t k) in
    ap (λ j. with_extensions m (blocks_taken 3 j (drop 128 m))) (counts b t n h c)
    ∙ ap (λ l. with_extensions m (blocks_taken 3 n l)) others
    ∙ ap (with_extensions m) (kept_taken 3 n t few k)
    ∙ ap (λ j. mended_block m j ++ overridden j t) size
    ∙ ap (λ l. l ++ overridden n t) (block_stays b t n h)
    ∙ ap (λ l. mended_block b n ++ l) (overridden_stays n t k c)

-- ---- nothing is said

revision_silent : (r : ℕ) → revision_by (mended_revision r) ≡ []
revision_silent r = by (nat_le r 3)
  where
    by : (v : Bool) → revision_by (cond v 3 4) ≡ []
    by true = refl
    by false = refl

lettered_silent : (high low : ℕ) → has_letters high low ≡ true → maker_by high low ≡ []
lettered_silent high low h = rw h refl

maker_silent : (x y z : ℕ) → maker_by (mended_letter x * 4 + mended_letter y / 8) (mended_letter y % 8 * 32 + mended_letter z) ≡ []
maker_silent x y z = lettered_silent (mended_letter x * 4 + mended_letter y / 8) (mended_letter y % 8 * 32 + mended_letter z) (maker_lettered x y z)

count_silent : (n : ℕ) → count_by n n ≡ []
count_silent n = let same : (n == n) ≡ true = eq-eqb n n refl in rw same refl

rest_silent : (n m : ℕ) → n ≡ 128 * m + 128 → rest_by (n - (128 * m + 128)) ≡ []
rest_silent n m h = let none : n - (128 * m + 128) ≡ 0 = omega (arith, h) in ap rest_by none

all_silent : (a b c d e f : List ℕ) → a ≡ [] → b ≡ [] → c ≡ [] → d ≡ [] → e ≡ [] → f ≡ [] → (a ++ (b ++ c)) ++ (d ++ (e ++ f)) ≡ []
all_silent a b c d e f p q r s t u = rw (p, q, r, s, t, u) refl

silent : (b t : List ℕ) (n : ℕ) → 128 ≤ length b → n ≤ 3 → AreKept n t → Counts n t → notes_text (mended_block b n ++ t) ≡ []
silent b t n h few k c =
    let m : List ℕ = mended_block b n ++ t in
    let size = block_len b n h in
    let len : length (mended_block b n ++ t) ≡ 128 * n + 128 = omega (arith, length-append (mended_block b n) t, size, kept_len n t k) in
    let count = counts b t n h c in
    let revision = get_or_append_left (mended_block b n) t 0 19 (omega (arith, size)) ∙ revision_at b n h in
    ap (notes_by m) (taken_again b t n h k c)
    ∙ all_silent (header_note m) (revision_note m) (maker_note m) (count_note m) (rest_note m) (blocks_notes 3 1 (extension_count m) (drop 128 m)) refl
    (ap revision_by revision ∙ revision_silent (get_or b 19 0))
    (maker_silent (get_or b 8 0 / 4 % 32) (get_or b 8 0 % 4 * 8 + get_or b 9 0 / 32) (get_or b 9 0 % 32))
    (ap (λ j. count_by j (get_or m 126 0)) count ∙ ap (count_by n) (first_at b t n h) ∙ count_silent n)
    (ap (λ j. rest_by (length m - (128 * j + 128))) count ∙ rest_silent (length m) n len)
    (
    ap (λ j. blocks_notes 3 1 j (drop 128 m)) count ∙ ap (blocks_notes 3 1 n) (drop_at (mended_block b n) t 128 size) ∙ kept_silent 3 1 n t few k
    )

-- ---- the same count

two_parts : (i : ℕ) (xs : List ℕ) → suc i < length xs → take i xs ++ (get_or xs i 0 ∷ get_or xs (suc i) 0 ∷ drop (suc (suc i)) xs) ≡ xs
two_parts i [] h = absurd (omega (arith, h))
two_parts zero (x ∷ []) h = absurd (omega (arith, h))
two_parts zero (x ∷ y ∷ xs) h = refl
two_parts (suc i) (x ∷ xs) h = ap (λ ys. x ∷ ys) (two_parts i xs (omega (arith, h)))

recount : (xs : List ℕ) (n : ℕ) → 127 < length xs → get_or xs 126 0 ≡ n → get_or xs 127 0 < 256 → with_count xs n ≡ xs
recount xs n long at small =
    let same : balance (get_or xs 126 0) (get_or xs 127 0) n ≡ get_or xs 127 0 = omega (arith, at, small) in
    ap (λ j. take 126 xs ++ (n ∷ j ∷ drop 128 xs)) same ∙ ap (λ j. take 126 xs ++ (j ∷ get_or xs 127 0 ∷ drop 128 xs)) (sym at) ∙ two_parts 126 xs long

small_check : (front : List ℕ) → check_of front < 256
small_check front = omega arith

check_at : (b t : List ℕ) (n : ℕ) → 128 ≤ length b → get_or (mended_block b n ++ t) 127 0 ≡ check_of (front_of b n)
check_at b t n h =
    get_or_append_left (mended_block b n) t 0 127 (omega (arith, block_len b n h))
    ∙ get_or-append_right (front_of b n) (check_of (front_of b n) ∷ []) 127 127 0 (front_len b n h) (lit≤ tt)

counted_stays : (b t : List ℕ) (n : ℕ) → 128 ≤ length b → n ≤ 3 → AreKept n t → Counts n t → counted (mended_block b n ++ t) ≡ Ok (mended_block b n ++ t)
counted_stays b t n h few k c =
    let m : List ℕ = mended_block b n ++ t in
    let len : length (mended_block b n ++ t) ≡ 128 + 128 * n = omega (arith, length-append (mended_block b n) t, block_len b n h, kept_len n t k) in
    let check = check_at b t n h in
    ap (λ v. cond v (Ok (with_count m (extension_count m))) (Err Length)) (length_is m n few len)
    ∙ ap (λ j. Ok (with_count m j)) (counts b t n h c)
    ∙ ap Ok (recount m n (omega (arith, len)) (first_at b t n h) (omega (arith, check, small_check (front_of b n))))

-- ---- the laws

pub stays_again : (bytes mended : List ℕ) → as_source bytes ≡ Ok mended → as_source mended ≡ Ok mended
stays_again bytes mended h =
    let m = made bytes mended h in
    let t : List ℕ = overridden m.count m.taken in
    let whole : List ℕ = mended_block bytes m.count ++ t in
    let counting = says m.count m.taken in
    subst (λ x. as_source x ≡ Ok x) (sym m.is)
    (ap (source_by whole) (taken_again bytes t m.count m.long m.kept counting) ∙ ap Ok (source_stays bytes t m.count m.long m.few m.kept counting))

pub stays_silent : (bytes mended : List ℕ) → as_source bytes ≡ Ok mended → notes_text mended ≡ []
stays_silent bytes mended h =
    let m = made bytes mended h in
    subst (λ x. notes_text x ≡ []) (sym m.is) (silent bytes (overridden m.count m.taken) m.count m.long m.few m.kept (says m.count m.taken))

pub stays_counted : (bytes mended : List ℕ) → as_source bytes ≡ Ok mended → counted mended ≡ Ok mended
stays_counted bytes mended h =
    let m = made bytes mended h in
    subst (λ x. counted x ≡ Ok x) (sym m.is) (counted_stays bytes (overridden m.count m.taken) m.count m.long m.few m.kept (says m.count m.taken))

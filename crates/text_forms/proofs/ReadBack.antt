-- The words of a row's values are read as that row with those values.
use Rattle.std.proofs.Common.{◌≡◌, ℕ, ◌+◌, ◌^◌, ◌<◌, ◌==◌, ◌&&◌, ◌||◌, ◌⊎◌, inl, inr, not, Bool, true, false, if◌then◌else◌, List, [], ◌∷◌, ◌++◌, nat_lt, nat_le, min, Some, None, option_map, refl, sym, ap, ◌∙◌, arith, true≢false}
use Rattle.std.specs.List.{list_all}
use Rattle.std.specs.Str.{bytes_eq}
use Rattle.std.proofs.lemmas.Slice.Eq.{bytes_eq-Decides}
use Rattle.std.proofs.lemmas.Bool.Decides.{nat_tests}
use Rattle.text_core.proofs.KindWords.{kind_read_again}
use Rattle.text_forms.specs.Forms.{Meaning, Place, fault_in, fits, is_itself, is_rest, is_whole, may_be, meaning_of, meanings_of, most_fitting, read_of, row_of, turn_of}
use Rattle.text_forms.specs.Forms.Meaning.{Itself, Number, PortOf, PortsOf, Level, KindOf, Text, Words}
use Rattle.text_forms.specs.Laws.{ReadsBack, all_apart, are_apart, are_values_of, differ, is_value_of, word_for, words_for}
use Rattle.text_forms.specs.declared.form.Slot.{Slot}
use Rattle.text_forms.specs.declared.form.Slot.TheVariants as slots
use Rattle.text_forms.proofs.Numbers.{byte_again, number_again}

-- ---- Bool

and_both : (a b : Bool) → (a && b) ≡ true → (a ≡ true) × (b ≡ true)
and_both true b h = (refl, h)
and_both false b h = absurd (true≢false (sym h))

and_none : (a : Bool) → (a && false) ≡ false
and_none true = refl
and_none false = refl

or_either : (a b : Bool) → (a || b) ≡ true → (a ≡ true) ⊎ (b ≡ true)
or_either true b h = inl refl
or_either false b h = inr h

not_so : (a : Bool) → not a ≡ true → a ≡ false
not_so true h = absurd (true≢false (sym h))
not_so false h = refl

if_true : (a b c : Bool) → a ≡ true → (if a then b else c) ≡ true → b ≡ true
if_true true b c e h = h
if_true false b c e h = absurd (true≢false (sym e))

or_second : (a b : Bool) → a ≡ false → (a || b) ≡ true → b ≡ true
or_second true b e h = absurd (true≢false e)
or_second false b e h = h

bytes_eq_self : (t : List ℕ) → bytes_eq t t ≡ true
bytes_eq_self t = (bytes_eq-Decides t t).1 refl

-- ---- one place

below : (n limit : ℕ) → nat_lt n limit ≡ true → n < limit
below n limit h = grind (arith, nat_tests)

small : (n limit : ℕ) → nat_le n limit ≡ true → limit < 2 ^ 64 → n < 2 ^ 64
small n limit h few = grind (arith, nat_tests)

under : (n limit : ℕ) → nat_le n limit ≡ true → nat_lt limit n ≡ false
under n limit h = grind (arith, nat_tests)

least_byte : (n : ℕ) → nat_le n 255 ≡ true → n < 256
least_byte n h = grind (arith, nat_tests)

least : (n limit : ℕ) → nat_le n limit ≡ true → min n limit ≡ n
least n limit h = grind (arith, nat_tests)

again : (t : List ℕ) (slot : Slot) (m : Meaning) → is_value_of slot m ≡ true → meaning_of slot (word_for t slot m) ≡ Some m
again t slots.Word Itself h = refl
again t slots.Word (Number n) h = absurd (true≢false (sym h))
again t slots.Word (PortOf n) h = absurd (true≢false (sym h))
again t slots.Word (PortsOf n) h = absurd (true≢false (sym h))
again t slots.Word (Level l) h = absurd (true≢false (sym h))
again t slots.Word (KindOf k) h = absurd (true≢false (sym h))
again t slots.Word (Text w) h = absurd (true≢false (sym h))
again t slots.Word (Words ws) h = absurd (true≢false (sym h))
again t slots.Key Itself h = refl
again t slots.Key (Number n) h = absurd (true≢false (sym h))
again t slots.Key (PortOf n) h = absurd (true≢false (sym h))
again t slots.Key (PortsOf n) h = absurd (true≢false (sym h))
again t slots.Key (Level l) h = absurd (true≢false (sym h))
again t slots.Key (KindOf k) h = absurd (true≢false (sym h))
again t slots.Key (Text w) h = absurd (true≢false (sym h))
again t slots.Key (Words ws) h = absurd (true≢false (sym h))
again t slots.Time Itself h = absurd (true≢false (sym h))
again t slots.Time (Number n) h = rw (number_again n (small n 1000000000000 h (omega arith)), under n 1000000000000 h) refl
again t slots.Time (PortOf n) h = absurd (true≢false (sym h))
again t slots.Time (PortsOf n) h = absurd (true≢false (sym h))
again t slots.Time (Level l) h = absurd (true≢false (sym h))
again t slots.Time (KindOf k) h = absurd (true≢false (sym h))
again t slots.Time (Text w) h = absurd (true≢false (sym h))
again t slots.Time (Words ws) h = absurd (true≢false (sym h))
again t slots.LateTime Itself h = absurd (true≢false (sym h))
again t slots.LateTime (Number n) h = rw (number_again n (small n 1000000000000 h (omega arith)), under n 1000000000000 h) refl
again t slots.LateTime (PortOf n) h = absurd (true≢false (sym h))
again t slots.LateTime (PortsOf n) h = absurd (true≢false (sym h))
again t slots.LateTime (Level l) h = absurd (true≢false (sym h))
again t slots.LateTime (KindOf k) h = absurd (true≢false (sym h))
again t slots.LateTime (Text w) h = absurd (true≢false (sym h))
again t slots.LateTime (Words ws) h = absurd (true≢false (sym h))
again t slots.Number Itself h = absurd (true≢false (sym h))
again t slots.Number (Number n) h = rw (number_again n (below n (2 ^ 64) h)) refl
again t slots.Number (PortOf n) h = absurd (true≢false (sym h))
again t slots.Number (PortsOf n) h = absurd (true≢false (sym h))
again t slots.Number (Level l) h = absurd (true≢false (sym h))
again t slots.Number (KindOf k) h = absurd (true≢false (sym h))
again t slots.Number (Text w) h = absurd (true≢false (sym h))
again t slots.Number (Words ws) h = absurd (true≢false (sym h))
again t slots.Port Itself h = absurd (true≢false (sym h))
again t slots.Port (Number n) h = absurd (true≢false (sym h))
again t slots.Port (PortOf n) h = rw (number_again n (small n 255 h (omega arith)), least n 255 h) refl
again t slots.Port (PortsOf n) h = absurd (true≢false (sym h))
again t slots.Port (Level l) h = absurd (true≢false (sym h))
again t slots.Port (KindOf k) h = absurd (true≢false (sym h))
again t slots.Port (Text w) h = absurd (true≢false (sym h))
again t slots.Port (Words ws) h = absurd (true≢false (sym h))
again t slots.KeyPort Itself h = absurd (true≢false (sym h))
again t slots.KeyPort (Number n) h = absurd (true≢false (sym h))
again t slots.KeyPort (PortOf n) h = rw (number_again n (small n 255 h (omega arith)), least n 255 h) refl
again t slots.KeyPort (PortsOf n) h = absurd (true≢false (sym h))
again t slots.KeyPort (Level l) h = absurd (true≢false (sym h))
again t slots.KeyPort (KindOf k) h = absurd (true≢false (sym h))
again t slots.KeyPort (Text w) h = absurd (true≢false (sym h))
again t slots.KeyPort (Words ws) h = absurd (true≢false (sym h))
again t slots.Ports Itself h = absurd (true≢false (sym h))
again t slots.Ports (Number n) h = absurd (true≢false (sym h))
again t slots.Ports (PortOf n) h = absurd (true≢false (sym h))
again t slots.Ports (PortsOf n) h = rw (number_again n (small n 15 h (omega arith)), under n 15 h) refl
again t slots.Ports (Level l) h = absurd (true≢false (sym h))
again t slots.Ports (KindOf k) h = absurd (true≢false (sym h))
again t slots.Ports (Text w) h = absurd (true≢false (sym h))
again t slots.Ports (Words ws) h = absurd (true≢false (sym h))
again t slots.Level Itself h = absurd (true≢false (sym h))
again t slots.Level (Number n) h = absurd (true≢false (sym h))
again t slots.Level (PortOf n) h = absurd (true≢false (sym h))
again t slots.Level (PortsOf n) h = absurd (true≢false (sym h))
again t slots.Level (Level true) h = refl
again t slots.Level (Level false) h = refl
again t slots.Level (KindOf k) h = absurd (true≢false (sym h))
again t slots.Level (Text w) h = absurd (true≢false (sym h))
again t slots.Level (Words ws) h = absurd (true≢false (sym h))
again t slots.Switch Itself h = absurd (true≢false (sym h))
again t slots.Switch (Number n) h = absurd (true≢false (sym h))
again t slots.Switch (PortOf n) h = absurd (true≢false (sym h))
again t slots.Switch (PortsOf n) h = absurd (true≢false (sym h))
again t slots.Switch (Level true) h = refl
again t slots.Switch (Level false) h = refl
again t slots.Switch (KindOf k) h = absurd (true≢false (sym h))
again t slots.Switch (Text w) h = absurd (true≢false (sym h))
again t slots.Switch (Words ws) h = absurd (true≢false (sym h))
again t slots.Kind Itself h = absurd (true≢false (sym h))
again t slots.Kind (Number n) h = absurd (true≢false (sym h))
again t slots.Kind (PortOf n) h = absurd (true≢false (sym h))
again t slots.Kind (PortsOf n) h = absurd (true≢false (sym h))
again t slots.Kind (Level l) h = absurd (true≢false (sym h))
again t slots.Kind (KindOf k) h = ap (option_map KindOf) (kind_read_again k)
again t slots.Kind (Text w) h = absurd (true≢false (sym h))
again t slots.Kind (Words ws) h = absurd (true≢false (sym h))
again t slots.Text Itself h = absurd (true≢false (sym h))
again t slots.Text (Number n) h = absurd (true≢false (sym h))
again t slots.Text (PortOf n) h = absurd (true≢false (sym h))
again t slots.Text (PortsOf n) h = absurd (true≢false (sym h))
again t slots.Text (Level l) h = absurd (true≢false (sym h))
again t slots.Text (KindOf k) h = absurd (true≢false (sym h))
again t slots.Text (Text w) h = refl
again t slots.Text (Words ws) h = absurd (true≢false (sym h))
again t slots.Opcode Itself h = absurd (true≢false (sym h))
again t slots.Opcode (Number n) h = rw (byte_again n (least_byte n h)) refl
again t slots.Opcode (PortOf n) h = absurd (true≢false (sym h))
again t slots.Opcode (PortsOf n) h = absurd (true≢false (sym h))
again t slots.Opcode (Level l) h = absurd (true≢false (sym h))
again t slots.Opcode (KindOf k) h = absurd (true≢false (sym h))
again t slots.Opcode (Text w) h = absurd (true≢false (sym h))
again t slots.Opcode (Words ws) h = absurd (true≢false (sym h))
again t slots.Rest m h = absurd (true≢false (sym h))

no_rest : (slot : Slot) (m : Meaning) → is_value_of slot m ≡ true → is_rest slot ≡ false
no_rest slots.Word m h = refl
no_rest slots.Key m h = refl
no_rest slots.Time m h = refl
no_rest slots.LateTime m h = refl
no_rest slots.Number m h = refl
no_rest slots.Port m h = refl
no_rest slots.KeyPort m h = refl
no_rest slots.Ports m h = refl
no_rest slots.Level m h = refl
no_rest slots.Switch m h = refl
no_rest slots.Kind m h = refl
no_rest slots.Opcode m h = refl
no_rest slots.Text m h = refl
no_rest slots.Rest m h = absurd (true≢false (sym h))

fits_own : (t : List ℕ) (slot : Slot) (m : Meaning) → is_value_of slot m ≡ true → (if is_itself slot then bytes_eq t (word_for t slot m) else may_be slot (word_for t slot m)) ≡ true
fits_own t slots.Word Itself h = bytes_eq_self t
fits_own t slots.Word (Number n) h = absurd (true≢false (sym h))
fits_own t slots.Word (PortOf n) h = absurd (true≢false (sym h))
fits_own t slots.Word (PortsOf n) h = absurd (true≢false (sym h))
fits_own t slots.Word (Level l) h = absurd (true≢false (sym h))
fits_own t slots.Word (KindOf k) h = absurd (true≢false (sym h))
fits_own t slots.Word (Text w) h = absurd (true≢false (sym h))
fits_own t slots.Word (Words ws) h = absurd (true≢false (sym h))
fits_own t slots.Key Itself h = bytes_eq_self t
fits_own t slots.Key (Number n) h = absurd (true≢false (sym h))
fits_own t slots.Key (PortOf n) h = absurd (true≢false (sym h))
fits_own t slots.Key (PortsOf n) h = absurd (true≢false (sym h))
fits_own t slots.Key (Level l) h = absurd (true≢false (sym h))
fits_own t slots.Key (KindOf k) h = absurd (true≢false (sym h))
fits_own t slots.Key (Text w) h = absurd (true≢false (sym h))
fits_own t slots.Key (Words ws) h = absurd (true≢false (sym h))
fits_own t slots.Time m h = refl
fits_own t slots.LateTime m h = refl
fits_own t slots.Number m h = refl
fits_own t slots.Port m h = refl
fits_own t slots.KeyPort m h = refl
fits_own t slots.Ports m h = refl
fits_own t slots.Level m h = refl
fits_own t slots.Switch m h = refl
fits_own t slots.Kind m h = refl
fits_own t slots.Opcode Itself h = absurd (true≢false (sym h))
fits_own t slots.Opcode (Number n) h = rw (byte_again n (least_byte n h)) refl
fits_own t slots.Opcode (PortOf n) h = absurd (true≢false (sym h))
fits_own t slots.Opcode (PortsOf n) h = absurd (true≢false (sym h))
fits_own t slots.Opcode (Level l) h = absurd (true≢false (sym h))
fits_own t slots.Opcode (KindOf k) h = absurd (true≢false (sym h))
fits_own t slots.Opcode (Text w) h = absurd (true≢false (sym h))
fits_own t slots.Opcode (Words ws) h = absurd (true≢false (sym h))
fits_own t slots.Text m h = refl
fits_own t slots.Rest m h = refl

-- ---- the places of a row

whole : (ps : List Place) (ms : List Meaning) → are_values_of ps ms ≡ true → is_whole ps (words_for ps ms) ≡ true
unfolding is_whole are_values_of words_for
whole [] [] h = refl
whole [] (m ∷ ms) h = absurd (true≢false (sym h))
whole (p ∷ ps) [] h = absurd (true≢false (sym h))
whole (p ∷ ps) (m ∷ ms) h =
    let both = and_both (is_value_of p.0 m) (are_values_of ps ms) h in
    rw (fits_own p.1 p.0 m both.0, no_rest p.0 m both.0) (whole ps ms both.1)

no_fault : (turn n : ℕ) (ps : List Place) (ms : List Meaning) → are_values_of ps ms ≡ true → fault_in turn n ps (words_for ps ms) ≡ None
unfolding fault_in are_values_of words_for
no_fault turn n [] ms h = refl
no_fault turn n (p ∷ ps) [] h = refl
no_fault turn n (p ∷ ps) (m ∷ ms) h =
    let both = and_both (is_value_of p.0 m) (are_values_of ps ms) h in
    rw (again p.1 p.0 m both.0, and_none (turn_of p.0 == turn)) (no_fault turn (n + 1) ps ms both.1)

said_again : (ps : List Place) (ms : List Meaning) → are_values_of ps ms ≡ true → meanings_of ps (words_for ps ms) ≡ ms
unfolding meanings_of are_values_of words_for
said_again [] [] h = refl
said_again [] (m ∷ ms) h = absurd (true≢false (sym h))
said_again (p ∷ ps) [] h = absurd (true≢false (sym h))
said_again (p ∷ ps) (m ∷ ms) h =
    let both = and_both (is_value_of p.0 m) (are_values_of ps ms) h in
    rw (no_rest p.0 m both.0, again p.1 p.0 m both.0) (ap (λ k. m ∷ k) (said_again ps ms both.1))

-- ---- the row of a line

-- a word that both rows have is the same word
clash : (p q : Place) (w : List ℕ) → differ p q ≡ true → fits p w ≡ true → fits q w ≡ true → ⊥
clash p q w d l r =
    let one = and_both (is_itself p.0) (is_itself q.0 && not (bytes_eq p.1 q.1)) d in
    let two = and_both (is_itself q.0) (not (bytes_eq p.1 q.1)) one.1 in
    let left : p.1 ≡ w = (bytes_eq-Decides p.1 w).0 (if_true (is_itself p.0) (bytes_eq p.1 w) (may_be p.0 w) one.0 l) in
    let right : q.1 ≡ w = (bytes_eq-Decides q.1 w).0 (if_true (is_itself q.0) (bytes_eq q.1 w) (may_be q.0 w) two.0 r) in
    true≢false (sym ((bytes_eq-Decides p.1 q.1).1 (left ∙ sym right)) ∙ not_so (bytes_eq p.1 q.1) two.1)

not_both : (ps qs : List Place) (ws : List (List ℕ)) → are_apart ps qs ≡ true → is_whole ps ws ≡ true → is_whole qs ws ≡ true → ⊥
unfolding is_whole are_apart
not_both [] [] ws a l r = true≢false (sym a)
not_both [] (q ∷ qs) [] a l r = true≢false (sym r)
not_both [] (q ∷ qs) (w ∷ ws) a l r = true≢false (sym l)
not_both (p ∷ ps) [] [] a l r = true≢false (sym l)
not_both (p ∷ ps) [] (w ∷ ws) a l r = true≢false (sym r)
not_both (p ∷ ps) (q ∷ qs) [] a l r = true≢false (sym l)
not_both (p ∷ ps) (q ∷ qs) (w ∷ ws) a l r =
    let left = and_both (fits p w) (is_rest p.0 || is_whole ps ws) l in
    let right = and_both (fits q w) (is_rest q.0 || is_whole qs ws) r in
    elim (or_either (differ p q) (not (is_rest p.0) && (not (is_rest q.0) && are_apart ps qs)) a) as (λ _. ⊥) [
      | inl d ↦ clash p q w d left.0 right.0
      | inr more ↦
          let one = and_both (not (is_rest p.0)) (not (is_rest q.0) && are_apart ps qs) more in
          let two = and_both (not (is_rest q.0)) (are_apart ps qs) one.1 in
          not_both ps qs ws two.1 (or_second (is_rest p.0) (is_whole ps ws) (not_so (is_rest p.0) one.0) left.1) (or_second (is_rest q.0) (is_whole qs ws) (not_so (is_rest q.0) two.0) right.1)
    ]

passed_by : (b : Bool) → (b ≡ true → ⊥) → b ≡ false
passed_by true h = absurd (h refl)
passed_by false h = refl

each_of : {X : Type 0} (f : X → Bool) (before after : List X) (x : X) → list_all f (before ++ x ∷ after) ≡ true → f x ≡ true
each_of f [] after x h = (and_both (f x) (list_all f after) h).0
each_of f (y ∷ before) after x h = each_of f before after x (and_both (f y) (list_all f (before ++ x ∷ after)) h).1

found : {V : Type 0} (before after : List (V × List Place)) (verb : V) (form : List Place) (ws : List (List ℕ)) → all_apart (before ++ (verb, form) ∷ after) ≡ true → is_whole form ws ≡ true
    → row_of (before ++ (verb, form) ∷ after) ws ≡ Some (verb, form)
unfolding row_of all_apart
found [] after verb form ws a h = rw h refl
found (row ∷ before) after verb form ws a h =
    let both = and_both (list_all (λ other. are_apart row.1 other.1) (before ++ (verb, form) ∷ after)) (all_apart (before ++ (verb, form) ∷ after)) a in
    let other = each_of (λ other. are_apart row.1 other.1) before after (verb, form) both.0 in
    let passed : is_whole row.1 ws ≡ false = passed_by (is_whole row.1 ws) (λ l. not_both row.1 form ws other l h) in
    rw passed (found before after verb form ws both.1 h)

pub reads_back : (V : Type 0) → ReadsBack V
reads_back V before after verb form ms a h =
    let table = before ++ (verb, form) ∷ after in
    ap (λ row. read_of (most_fitting table (words_for form ms)) row (words_for form ms)) (found before after verb form (words_for form ms) a (whole form ms h))
    ∙ rw (no_fault 0 0 form ms h, no_fault 1 0 form ms h, no_fault 2 0 form ms h, said_again form ms h) refl

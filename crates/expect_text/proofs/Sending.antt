-- What stands at the end of a line meets a pattern exactly where it is found to.
use Rattle.std.proofs.Common.{◌≡◌, ℕ, ◌+◌, ◌-◌, ◌*◌, ◌/◌, ◌%◌, ◌<◌, ◌≤◌, ◌||◌, ◌⊎◌, inl, inr, Bool, true, false, codes, length, map, take, drop, get_or, List, [], ◌∷◌, ◌++◌, refl, sym, ap, subst, ◌∙◌, arith, rules, append_assoc, true≢false}
use Rattle.std.specs.Prelude.{decimal}
use Rattle.std.specs.List.{flat_map}
use Rattle.std.proofs.lemmas.Bool.{cases_lt}
use Rattle.std.proofs.lemmas.Fmt.{decimal_digit, decimal_step}
use Rattle.std.proofs.lemmas.Grind.{common_steps}
use Rattle.expect_text.specs.Fits.{fits}
use Rattle.expect_text.specs.Parts.{IsEnd, IsTextBefore, after_text, end_met, has, is_met}
use Rattle.expect_text.specs.Senders.{AreOf, IsLoser, IsSender, IsSenders, IsTail, Judged, any_met, list_met, listed, loser_met, more_met, out_met, sender_met, senders_met, tail_met}
use Rattle.expect_text.specs.Senders.Judged.{Run, Capture}
use Rattle.expect_text.specs.declared.part.PatternPart.{PatternPart}
use Rattle.expect_text.specs.declared.part.PatternPart.TheVariants.{Byte, One}
use Rattle.expect_text.specs.declared.part.Class.TheVariants.{Digit, NonZero, UpToFive}
use Rattle.expect_text.proofs.Meeting.{Decides, append_none, decides, end_decides, text_decides}
use Rattle.expect_text.proofs.Truth.{either, or_left, or_right}

-- found by some of these texts alone, and there where one is found
record Finds (met : List ℕ → Bool) (Texts : List ℕ → Type 0) : Type 0 where
  only : (pattern text : List ℕ) → Texts text → fits pattern text ≡ true → met pattern ≡ true
  some : (pattern : List ℕ) → met pattern ≡ true → (text : List ℕ) × Texts text × (fits pattern text ≡ true)

-- a text of a device before others
abbrev ItemBefore : (List ℕ → List ℕ → Type 0) → (List ℕ → Type 0) → List ℕ → List ℕ → Type 0
ItemBefore Item Rest name text = (t rest : List ℕ) × Item name t × Rest rest × (text ≡ t ++ rest)

abbrev Commas : List (List ℕ) → List ℕ
Commas texts = flat_map (λ t. 44 ∷ t) texts

abbrev MoreBefore : (List ℕ → List ℕ → Type 0) → List (List ℕ) → (List ℕ → Type 0) → List ℕ → Type 0
MoreBefore Item names Rest text = (texts : List (List ℕ)) × (rest : List ℕ) × AreOf Item names texts × Rest rest × (text ≡ Commas texts ++ rest)

abbrev SomeBefore : List ℕ → (List ℕ → List ℕ → Type 0) → List (List ℕ) → (List ℕ → Type 0) → List ℕ → Type 0
SomeBefore lead Item names Rest text =
    (first : List ℕ) × (more : List (List ℕ)) × (rest : List ℕ) × AreOf Item names (first ∷ more) × Rest rest × (text ≡ lead ++ (first ++ (Commas more ++ rest)))

abbrev ListBefore : List ℕ → (List ℕ → List ℕ → Type 0) → List (List ℕ) → (List ℕ → Type 0) → List ℕ → Type 0
ListBefore lead Item names Rest text = (texts : List (List ℕ)) × (rest : List ℕ) × AreOf Item names texts × Rest rest × (text ≡ lead ++ (listed texts ++ rest))

-- ---- lists

same_first : (x y : List ℕ) (xs ys : List (List ℕ)) → x ∷ xs ≡ y ∷ ys → x ≡ y
same_first x y xs ys e = search rules

no_texts : {T : Type 0} (x : List ℕ) (xs : List (List ℕ)) → x ∷ xs ≡ [] → T
no_texts x xs e = cc

same_rest : (x y : List ℕ) (xs ys : List (List ℕ)) → x ∷ xs ≡ y ∷ ys → xs ≡ ys
same_rest x y xs ys e = search rules

module _ (Item : List ℕ → List ℕ → Type 0) where
  none_of : (names : List (List ℕ)) → AreOf Item names []
  none_of [] = refl
  none_of (name ∷ names) = inl (none_of names)

module _ (item : List ℕ → (List ℕ → Bool) → List ℕ → Bool) (Item : List ℕ → List ℕ → Type 0)
    (item_decides : (name : List ℕ) (met : List ℕ → Bool) (Rest : List ℕ → Type 0) → Decides met Rest → Decides (item name met) (ItemBefore Item Rest name))
    (met : List ℕ → Bool) (Rest : List ℕ → Type 0) (d : Decides met Rest) where
  more_by : (names : List (List ℕ)) → Finds (any_met (44 ∷ []) item names met) (SomeBefore (44 ∷ []) Item names Rest) → Decides (more_met item names met) (MoreBefore Item names Rest)
  more_by names found = record {
    only = only;
    some = λ pattern h. either (met pattern) (any_met (44 ∷ []) item names met pattern) h
        (λ e. let r = d.some pattern e in (r.0, ([], r.0, none_of Item names, r.1, refl), r.2))
        (λ e. let r = found.some pattern e in
        (r.0, (r.1.0 ∷ r.1.1, r.1.2, r.1.3, r.1.4, r.1.5 ∙ ap (λ (x : List ℕ). 44 ∷ x) (sym (append_assoc r.1.0 (Commas r.1.1) r.1.2))), r.2));
    any = (d.any.0, ([], d.any.0, none_of Item names, d.any.1, refl));
  }
    where
      only : (pattern text : List ℕ) → MoreBefore Item names Rest text → fits pattern text ≡ true → more_met item names met pattern ≡ true
      only pattern text ([], rest, are, r, same) f =
          or_left (met pattern) (any_met (44 ∷ []) item names met pattern) (d.only pattern rest r (subst (λ x. fits pattern x ≡ true) same f))
      only pattern text (first ∷ more, rest, are, r, same) f =
          or_right (met pattern) (any_met (44 ∷ []) item names met pattern)
          (found.only pattern text (first, more, rest, are, r, same ∙ ap (λ (x : List ℕ). 44 ∷ x) (append_assoc first (Commas more) rest)) f)

  nobody_found : (lead pattern text : List ℕ) → SomeBefore lead Item [] Rest text → fits pattern text ≡ true → any_met lead item [] met pattern ≡ true
  nobody_found lead pattern text (first, others, rest, are, r, same) f = no_texts first others are

  module _ (name : List ℕ) (names : List (List ℕ)) (lead : List ℕ) (later : Finds (any_met lead item names met) (SomeBefore lead Item names Rest))
      (more : Decides (more_met item names met) (MoreBefore Item names Rest)) where
    here : Decides (after_text lead (item name (more_met item names met))) (λ text. (m : List ℕ) × (text ≡ lead ++ m) × ItemBefore Item (MoreBefore Item names Rest) name m)
    here = text_decides (item name (more_met item names met)) (ItemBefore Item (MoreBefore Item names Rest) name) (item_decides name (more_met item names met) (MoreBefore Item names Rest) more) lead

    step_only : (pattern text : List ℕ) → SomeBefore lead Item (name ∷ names) Rest text → fits pattern text ≡ true → any_met lead item (name ∷ names) met pattern ≡ true
    step_only pattern text (first, others, rest, inl are, r, same) f =
        or_left (any_met lead item names met pattern) (after_text lead (item name (more_met item names met)) pattern) (later.only pattern text (first, others, rest, are, r, same) f)
    step_only pattern text (first, others, rest, inr here_is, r, same) f =
        or_right (any_met lead item names met pattern) (after_text lead (item name (more_met item names met)) pattern)
        (here.only pattern text (
          first ++ (Commas others ++ rest),
          same,
          (
            first,
            Commas others ++ rest,
            subst (Item name) (sym (same_first first here_is.0 others here_is.1 here_is.2)) here_is.3,
            (others, rest, subst (AreOf Item names) (sym (same_rest first here_is.0 others here_is.1 here_is.2)) here_is.4, r, refl),
            refl,
          ),
        ) f)

    step_some : (pattern : List ℕ) → any_met lead item (name ∷ names) met pattern ≡ true → (text : List ℕ) × SomeBefore lead Item (name ∷ names) Rest text × (fits pattern text ≡ true)
    step_some pattern h = either (any_met lead item names met pattern) (after_text lead (item name (more_met item names met)) pattern) h
        (λ e. let r = later.some pattern e in (r.0, (r.1.0, r.1.1, r.1.2, inl r.1.3, r.1.4, r.1.5), r.2))
        (λ e. let r = here.some pattern e in
        let it = r.1.2 in
        let rest = it.3 in
        (r.0, (it.0, rest.0, rest.1, inr (it.0, rest.0, refl, it.2, rest.2), rest.3, r.1.1 ∙ ap (λ (x : List ℕ). lead ++ x) (it.4 ∙ ap (λ (x : List ℕ). it.0 ++ x) rest.4)), r.2))

  any_finds : (names : List (List ℕ)) (lead : List ℕ) → Finds (any_met lead item names met) (SomeBefore lead Item names Rest)
  any_finds [] lead = record { only = nobody_found lead; some = λ pattern h. absurd (true≢false (sym h)) }
  any_finds (name ∷ names) lead =
      let later = any_finds names lead in
      let more = more_by names (any_finds names (44 ∷ [])) in
      record { only = step_only name names lead later more; some = step_some name names lead later more }

  pub list_decides : (lead : List ℕ) (names : List (List ℕ)) → Decides (list_met lead item names met) (ListBefore lead Item names Rest)
  list_decides lead names = record { only = only; some = some; any = ((lead ++ 45 ∷ []) ++ d.any.0, ([], d.any.0, none_of Item names, d.any.1, append_assoc lead (45 ∷ []) d.any.0)) }
    where
      nobody : Decides (after_text (lead ++ 45 ∷ []) met) (λ text. (m : List ℕ) × (text ≡ (lead ++ 45 ∷ []) ++ m) × Rest m)
      nobody = text_decides met Rest d (lead ++ 45 ∷ [])

      only : (pattern text : List ℕ) → ListBefore lead Item names Rest text → fits pattern text ≡ true → list_met lead item names met pattern ≡ true
      only pattern text ([], rest, are, r, same) f =
          or_left (after_text (lead ++ 45 ∷ []) met pattern) (any_met lead item names met pattern) (nobody.only pattern text (rest, same ∙ sym (append_assoc lead (45 ∷ []) rest), r) f)
      only pattern text (first ∷ more, rest, are, r, same) f =
          or_right (after_text (lead ++ 45 ∷ []) met pattern) (any_met lead item names met pattern)
          ((any_finds names lead).only pattern text (first, more, rest, are, r, same ∙ ap (λ (x : List ℕ). lead ++ x) (append_assoc first (Commas more) rest)) f)

      some : (pattern : List ℕ) → list_met lead item names met pattern ≡ true → (text : List ℕ) × ListBefore lead Item names Rest text × (fits pattern text ≡ true)
      some pattern h = either (after_text (lead ++ 45 ∷ []) met pattern) (any_met lead item names met pattern) h
          (λ e. let r = nobody.some pattern e in (r.0, ([], r.1.0, none_of Item names, r.1.2, r.1.1 ∙ append_assoc lead (45 ∷ []) r.1.0), r.2))
          (λ e. let r = (any_finds names lead).some pattern e in
          (r.0, (r.1.0 ∷ r.1.1, r.1.2, r.1.3, r.1.4, r.1.5 ∙ ap (λ (x : List ℕ). lead ++ x) (sym (append_assoc r.1.0 (Commas r.1.1) r.1.2))), r.2))

-- ---- a device

sender_decides : (name : List ℕ) (met : List ℕ → Bool) (Rest : List ℕ → Type 0) → Decides met Rest → Decides (sender_met name met) (ItemBefore IsSender Rest name)
sender_decides name met Rest d =
    let same = text_decides met Rest d name in
    record {
      only = λ pattern text t f. same.only pattern text (t.1, t.4 ∙ ap (λ (x : List ℕ). x ++ t.1) t.2, t.3) f;
      some = λ pattern h. let r = same.some pattern h in (r.0, (name, r.1.0, refl, r.1.2, r.1.1), r.2);
      any = (name ++ d.any.0, (name, d.any.0, refl, d.any.1, refl));
    }

pub decimal_two : (n : ℕ) → 10 ≤ n → n < 100 → decimal n ≡ (48 + n / 10) ∷ (48 + n % 10) ∷ []
decimal_two n low high = decimal_step n low (omega arith) ∙ ap (λ xs. xs ++ (48 + n % 10) ∷ []) (decimal_digit (n / 10) (omega arith))

decimal_three : (n : ℕ) → 100 ≤ n → n < 200 → decimal n ≡ 49 ∷ (48 + n / 10 % 10) ∷ (48 + n % 10) ∷ []
decimal_three n low high =
    let one : n / 10 / 10 ≡ 1 = omega arith in
    decimal_step n (omega arith) (omega arith) ∙ ap (λ xs. xs ++ (48 + n % 10) ∷ []) (decimal_two (n / 10) (omega arith) (omega arith) ∙ ap (λ (k : ℕ). (48 + k) ∷ (48 + n / 10 % 10) ∷ []) one)

abbrev SlotBefore : (List ℕ → Type 0) → List ℕ → Type 0
SlotBefore Rest text = (slot : ℕ) × (rest : List ℕ) × (1 ≤ slot) × (slot ≤ 160) × Rest rest × (text ≡ 64 ∷ (decimal slot ++ rest))

nonzero_least : (b : ℕ) → has NonZero b ≡ true → 49 ≤ b
nonzero_least b h = grind (arith, common_steps)

nonzero_most : (b : ℕ) → has NonZero b ≡ true → b ≤ 57
nonzero_most b h = grind (arith, common_steps)

digit_least : (b : ℕ) → has Digit b ≡ true → 48 ≤ b
digit_least b h = grind (arith, common_steps)

digit_most : (b : ℕ) → has Digit b ≡ true → b ≤ 57
digit_most b h = grind (arith, common_steps)

five_least : (b : ℕ) → has UpToFive b ≡ true → 48 ≤ b
five_least b h = grind (arith, common_steps)

five_most : (b : ℕ) → has UpToFive b ≡ true → b ≤ 53
five_most b h = grind (arith, common_steps)

pub a_nonzero : (n : ℕ) → 1 ≤ n → n < 10 → has NonZero (48 + n) ≡ true
a_nonzero n l h = grind (arith, common_steps)

pub a_digit : (n : ℕ) → n < 10 → has Digit (48 + n) ≡ true
a_digit n h = grind (arith, common_steps)

up_to_five : (n : ℕ) → n < 6 → has UpToFive (48 + n) ≡ true
up_to_five n h = grind (arith, common_steps)

abbrev of_one : List PatternPart
of_one = Byte 64 ∷ One NonZero ∷ []

abbrev of_two : List PatternPart
of_two = Byte 64 ∷ One NonZero ∷ One Digit ∷ []

abbrev of_three : List PatternPart
of_three = Byte 64 ∷ Byte 49 ∷ One UpToFive ∷ One Digit ∷ []

abbrev the_last : List PatternPart
the_last = Byte 64 ∷ Byte 49 ∷ Byte 54 ∷ Byte 48 ∷ []

module _ (Rest : List ℕ → Type 0) where
  one_from : (text more : List ℕ) → text ≡ 64 ∷ more → (b : ℕ) (rest : List ℕ) → has NonZero b ≡ true → more ≡ b ∷ rest → Rest rest → SlotBefore Rest text
  one_from text more e b rest h k r =
      let low = nonzero_least b h in
      let high = nonzero_most b h in
      let same : 48 + (b - 48) ≡ b = omega (arith, low) in
      let said : decimal (b - 48) ≡ b ∷ [] = decimal_digit (b - 48) (omega (arith, high)) ∙ ap (λ (n : ℕ). n ∷ []) same in
      (b - 48, rest, omega (arith, low), omega (arith, high), r, e ∙ ap (λ (x : List ℕ). 64 ∷ x) (k ∙ ap (λ (x : List ℕ). x ++ rest) (sym said)))

  one_is : (text : List ℕ) → IsTextBefore Rest of_one text → SlotBefore Rest text
  one_is text t = one_from text t.0 t.1 t.2.0 t.2.1 t.2.2 t.2.3 t.2.4

  two_from : (text more : List ℕ) → text ≡ 64 ∷ more → (a : ℕ) (others : List ℕ) → has NonZero a ≡ true → more ≡ a ∷ others → (b : ℕ) (rest : List ℕ) → has Digit b ≡ true → others ≡ b ∷ rest → Rest rest
      → SlotBefore Rest text
  two_from text more e a others h k b rest i m r =
      let low = nonzero_least a h in
      let high = nonzero_most a h in
      let least = digit_least b i in
      let most = digit_most b i in
      let tens : 48 + ((a - 48) * 10 + (b - 48)) / 10 ≡ a = omega (arith, low, high, least, most) in
      let ones : 48 + ((a - 48) * 10 + (b - 48)) % 10 ≡ b = omega (arith, low, high, least, most) in
      let said : decimal ((a - 48) * 10 + (b - 48)) ≡ a ∷ b ∷ [] =
      decimal_two ((a - 48) * 10 + (b - 48)) (omega (arith, low)) (omega (arith, high, most))
      ∙ ap (λ (x : ℕ). x ∷ (48 + ((a - 48) * 10 + (b - 48)) % 10) ∷ []) tens ∙ ap (λ (x : ℕ). a ∷ x ∷ []) ones in (
        (a - 48) * 10 + (b - 48),
        rest,
        omega (arith, low),
        omega (arith, high, most),
        r,
        e ∙ ap (λ (x : List ℕ). 64 ∷ x) (k ∙ ap (λ (x : List ℕ). a ∷ x) m ∙ ap (λ (x : List ℕ). x ++ rest) (sym said)),
      )

  two_is : (text : List ℕ) → IsTextBefore Rest of_two text → SlotBefore Rest text
  two_is text t = two_from text t.0 t.1 t.2.0 t.2.1 t.2.2 t.2.3 t.2.4.0 t.2.4.1 t.2.4.2 t.2.4.3 t.2.4.4

  three_from : (text more : List ℕ) → text ≡ 64 ∷ more → (third : List ℕ) → more ≡ 49 ∷ third → (a : ℕ) (others : List ℕ) → has UpToFive a ≡ true → third ≡ a ∷ others
      → (b : ℕ) (rest : List ℕ) → has Digit b ≡ true → others ≡ b ∷ rest → Rest rest → SlotBefore Rest text
  three_from text more e third j a others h k b rest i m r =
      let low = five_least a h in
      let high = five_most a h in
      let least = digit_least b i in
      let most = digit_most b i in
      let tens : 48 + (100 + (a - 48) * 10 + (b - 48)) / 10 % 10 ≡ a = omega (arith, low, high, least, most) in
      let ones : 48 + (100 + (a - 48) * 10 + (b - 48)) % 10 ≡ b = omega (arith, low, high, least, most) in
      let said : decimal (100 + (a - 48) * 10 + (b - 48)) ≡ 49 ∷ a ∷ b ∷ [] =
      decimal_three (100 + (a - 48) * 10 + (b - 48)) (omega arith) (omega (arith, high, most))
      ∙ ap (λ (x : ℕ). 49 ∷ x ∷ (48 + (100 + (a - 48) * 10 + (b - 48)) % 10) ∷ []) tens ∙ ap (λ (x : ℕ). 49 ∷ a ∷ x ∷ []) ones in (
        100 + (a - 48) * 10 + (b - 48),
        rest,
        omega arith,
        omega (arith, high, most),
        r,
        e ∙ ap (λ (x : List ℕ). 64 ∷ x) (j ∙ ap (λ (x : List ℕ). 49 ∷ x) (k ∙ ap (λ (x : List ℕ). a ∷ x) m) ∙ ap (λ (x : List ℕ). x ++ rest) (sym said)),
      )

  three_is : (text : List ℕ) → IsTextBefore Rest of_three text → SlotBefore Rest text
  three_is text t = three_from text t.0 t.1 t.2.0 t.2.1 t.2.2.0 t.2.2.1 t.2.2.2 t.2.2.3 t.2.2.4.0 t.2.2.4.1 t.2.2.4.2 t.2.2.4.3 t.2.2.4.4

  last_from : (text more : List ℕ) → text ≡ 64 ∷ more → (third : List ℕ) → more ≡ 49 ∷ third → (second : List ℕ) → third ≡ 54 ∷ second → (rest : List ℕ) → second ≡ 48 ∷ rest → Rest rest → SlotBefore Rest text
  last_from text more e third j second k rest m r = (
    160,
    rest,
    omega arith,
    omega arith,
    r,
    e ∙ ap (λ (x : List ℕ). 64 ∷ x) (j ∙ ap (λ (x : List ℕ). 49 ∷ x) (k ∙ ap (λ (x : List ℕ). 54 ∷ x) m)
        ∙ ap (λ (x : List ℕ). x ++ rest) (sym (decimal_three 160 (omega arith) (omega arith)))),
  )

  last_is : (text : List ℕ) → IsTextBefore Rest the_last text → SlotBefore Rest text
  last_is text t = last_from text t.0 t.1 t.2.0 t.2.1 t.2.2.0 t.2.2.1 t.2.2.2.0 t.2.2.2.1 t.2.2.2.2

  abbrev Slots : List ℕ → Type 0
  Slots text = IsTextBefore Rest of_one text ⊎ (IsTextBefore Rest of_two text ⊎ (IsTextBefore Rest of_three text ⊎ IsTextBefore Rest the_last text))

  slot_is : (text : List ℕ) → SlotBefore Rest text → Slots text
  slot_is text (slot, rest, least, most, r, e) = by (cases_lt slot 10) (cases_lt slot 100) (cases_lt slot 160)
    where
      by : (slot < 10) ⊎ (10 ≤ slot) → (slot < 100) ⊎ (100 ≤ slot) → (slot < 160) ⊎ (160 ≤ slot) → Slots text
      by (inl one) b c =
          inl (decimal slot ++ rest, e, (48 + slot, rest, a_nonzero slot least one, ap (λ (x : List ℕ). x ++ rest) (decimal_digit slot one), r))
      by (inr more) (inl two) c =
          inr (inl (
            decimal slot ++ rest,
            e,
            (
              48 + slot / 10,
              (48 + slot % 10) ∷ rest,
              a_nonzero (slot / 10) (omega (arith, more)) (omega (arith, two)),
              ap (λ (x : List ℕ). x ++ rest) (decimal_two slot more two),
              (48 + slot % 10, rest, a_digit (slot % 10) (omega arith), refl, r),
            ),
          ))
      by (inr more) (inr hundred) (inl three) =
          inr (inr (inl (
            decimal slot ++ rest,
            e,
            (
              (48 + slot / 10 % 10) ∷ (48 + slot % 10) ∷ rest,
              ap (λ (x : List ℕ). x ++ rest) (decimal_three slot hundred (omega (arith, three))),
              (48 + slot / 10 % 10, (48 + slot % 10) ∷ rest, up_to_five (slot / 10 % 10) (omega (arith, hundred, three)), refl, (48 + slot % 10, rest, a_digit (slot % 10) (omega arith), refl, r)),
            ),
          )))
      by (inr more) (inr hundred) (inr last) =
          let same : slot ≡ 160 = omega (arith, last, most) in
          inr (inr (inr (
            decimal slot ++ rest,
            e,
            (
              54 ∷ 48 ∷ rest,
              ap (λ (n : ℕ). decimal n ++ rest) same ∙ ap (λ (x : List ℕ). x ++ rest) (decimal_three 160 (omega arith) (omega arith)),
              (48 ∷ rest, refl, (rest, refl, r)),
            ),
          )))

module _ (name : List ℕ) (met : List ℕ → Bool) (Rest : List ℕ → Type 0) (d : Decides met Rest) where
  abbrev by_slot : (parts : List PatternPart) → Decides (after_text name (is_met met parts)) (λ text. (m : List ℕ) × (text ≡ name ++ m) × IsTextBefore Rest parts m)
  by_slot parts = text_decides (is_met met parts) (IsTextBefore Rest parts) (decides met Rest d parts) name

  abbrev found : (parts : List PatternPart) → List ℕ → Bool
  found parts pattern = after_text name (is_met met parts) pattern

  abbrev rest_of : List ℕ → Bool
  rest_of pattern = found of_two pattern || (found of_three pattern || (found the_last pattern || false))

  met_by : (pattern text m : List ℕ) → text ≡ name ++ m → fits pattern text ≡ true → Slots Rest m → loser_met name met pattern ≡ true
  met_by pattern text m e f (inl t) = or_left (found of_one pattern) (rest_of pattern) ((by_slot of_one).only pattern text (m, e, t) f)
  met_by pattern text m e f (inr (inl t)) = or_right (found of_one pattern) (rest_of pattern)
      (or_left (found of_two pattern) (found of_three pattern || (found the_last pattern || false)) ((by_slot of_two).only pattern text (m, e, t) f))
  met_by pattern text m e f (inr (inr (inl t))) = or_right (found of_one pattern) (rest_of pattern)
      (or_right (found of_two pattern) (found of_three pattern || (found the_last pattern || false))
      (or_left (found of_three pattern) (found the_last pattern || false) ((by_slot of_three).only pattern text (m, e, t) f)))
  met_by pattern text m e f (inr (inr (inr t))) = or_right (found of_one pattern) (rest_of pattern)
      (or_right (found of_two pattern) (found of_three pattern || (found the_last pattern || false))
      (or_right (found of_three pattern) (found the_last pattern || false)
      (or_left (found the_last pattern) false ((by_slot the_last).only pattern text (m, e, t) f))))

  loser_only : (pattern text : List ℕ) → ItemBefore IsLoser Rest name text → fits pattern text ≡ true → loser_met name met pattern ≡ true
  loser_only pattern text (t, rest, at, r, same) f =
      met_by pattern text (64 ∷ (decimal at.0 ++ rest)) (same ∙ ap (λ (x : List ℕ). x ++ rest) at.3 ∙ append_assoc name (64 ∷ decimal at.0) rest) f
      (slot_is Rest (64 ∷ (decimal at.0 ++ rest)) (at.0, rest, at.1, at.2, r, refl))

  item : (text m : List ℕ) → text ≡ name ++ m → SlotBefore Rest m → ItemBefore IsLoser Rest name text
  item text m e (slot, rest, least, most, r, k) =
      (name ++ 64 ∷ decimal slot, rest, (slot, least, most, refl), r, e ∙ ap (λ (x : List ℕ). name ++ x) k ∙ sym (append_assoc name (64 ∷ decimal slot) rest))

  abbrev Found : List ℕ → Type 0
  Found pattern = (text : List ℕ) × ItemBefore IsLoser Rest name text × (fits pattern text ≡ true)

  by_parts : (parts : List PatternPart) → ((m : List ℕ) → IsTextBefore Rest parts m → SlotBefore Rest m) → (pattern : List ℕ) → found parts pattern ≡ true → Found pattern
  by_parts parts is pattern h = let r = (by_slot parts).some pattern h in (r.0, item r.0 r.1.0 r.1.1 (is r.1.0 r.1.2), r.2)

  loser_some : (pattern : List ℕ) → loser_met name met pattern ≡ true → Found pattern
  loser_some pattern h = either (found of_one pattern) (rest_of pattern) h (by_parts of_one (one_is Rest) pattern)
      (λ e. either (found of_two pattern) (found of_three pattern || (found the_last pattern || false)) e (by_parts of_two (two_is Rest) pattern)
      (λ g. either (found of_three pattern) (found the_last pattern || false) g (by_parts of_three (three_is Rest) pattern)
      (λ k. either (found the_last pattern) false k (by_parts the_last (last_is Rest) pattern) (λ n. absurd (true≢false (sym n))))))

  loser_any : (text : List ℕ) × ItemBefore IsLoser Rest name text
  loser_any = let a = (by_slot the_last).any in (a.0, item a.0 a.1.0 a.1.1 (last_is Rest a.1.0 a.1.2))

  loser_finds : Decides (loser_met name met) (ItemBefore IsLoser Rest name)
  loser_finds = record { only = loser_only; some = loser_some; any = loser_any }

loser_decides : (name : List ℕ) (met : List ℕ → Bool) (Rest : List ℕ → Type 0) → Decides met Rest → Decides (loser_met name met) (ItemBefore IsLoser Rest name)
loser_decides name met Rest d = loser_finds name met Rest d

-- ---- the end of a line

out_decides : (names : List (List ℕ)) → Decides (out_met names) (ListBefore (codes " out ") IsLoser names IsEnd)
out_decides names = list_decides loser_met IsLoser loser_decides end_met IsEnd end_decides (codes " out ") names

by_decides : (names : List (List ℕ)) → Decides (senders_met names) (ListBefore (codes " by ") IsSender names (ListBefore (codes " out ") IsLoser names IsEnd))
by_decides names = list_decides sender_met IsSender sender_decides (out_met names) (ListBefore (codes " out ") IsLoser names IsEnd) (out_decides names) (codes " by ") names

senders_from : (names : List (List ℕ)) (text : List ℕ) → IsSenders names text → ListBefore (codes " by ") IsSender names (ListBefore (codes " out ") IsLoser names IsEnd) text
senders_from names text (by, out, went, stopped, e) =
    (by, codes " out " ++ listed out, went, (out, [], stopped, refl, ap (λ (x : List ℕ). codes " out " ++ x) (sym (append_none (listed out)))), e)

senders_to : (names : List (List ℕ)) (text : List ℕ) → ListBefore (codes " by ") IsSender names (ListBefore (codes " out ") IsLoser names IsEnd) text → IsSenders names text
senders_to names text (by, rest, went, last, e) =
    (by, last.0, went, last.2, e ∙ ap (λ (x : List ℕ). codes " by " ++ (listed by ++ x)) (last.4 ∙ ap (λ (x : List ℕ). codes " out " ++ (listed last.0 ++ x)) last.3 ∙ ap (λ (x : List ℕ). codes " out " ++ x) (append_none (listed last.0))))

pub tail_decides : (who : Judged) → Decides (tail_met who) (IsTail who)
unfolding tail_met
tail_decides (Run names) =
    let d = by_decides names in
    record {
      only = λ pattern text t f. d.only pattern text (senders_from names text t) f;
      some = λ pattern h. let r = d.some pattern h in (r.0, senders_to names r.0 r.1, r.2);
      any = (d.any.0, senders_to names d.any.0 d.any.1);
    }
tail_decides Capture = record { only = end_decides.only; some = end_decides.some; any = end_decides.any }

-- ---- one device more, as they are followed

all_taken : {X : Type 0} (xs : List X) → take (length xs) xs ≡ xs
all_taken [] = refl
all_taken (x ∷ xs) = ap (λ t. x ∷ t) (all_taken xs)

pub any_here : {X : Type 0} (f : X → List ℕ) (lead : List ℕ) (item : List ℕ → (List ℕ → Bool) → List ℕ → Bool) (met : List ℕ → Bool) (pattern : List ℕ) (names : List X) (none : X) (r : Bool)
    → 1 ≤ length names → any_met lead item (map f (take (length names - 1) (drop 1 names))) met pattern ≡ false
    → r ≡ after_text lead (item (f (get_or names 0 none)) (more_met item (map f (take (length names - 1) (drop 1 names))) met)) pattern → r ≡ any_met lead item (map f names) met pattern
any_here f lead item met pattern [] none r l h e = absurd (omega (arith, l))
any_here f lead item met pattern (x ∷ names) none r l h e =
    let count : length (x ∷ names) - 1 ≡ length names = omega arith in
    let same : take (length (x ∷ names) - 1) names ≡ names = ap (λ (k : ℕ). take k names) count ∙ all_taken names in
    subst (λ t. r ≡ after_text lead (item (f x) (more_met item (map f t) met)) pattern) same e
    ∙ ap (λ b. b || after_text lead (item (f x) (more_met item (map f names) met)) pattern) (sym (subst (λ t. any_met lead item (map f t) met pattern ≡ false) same h))

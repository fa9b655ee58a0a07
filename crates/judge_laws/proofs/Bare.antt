-- A pattern of which no word can stand for `by` fits what a round says exactly where it fits that without who sent.
use Rattle.std.proofs.Common.{◌≡◌, ℕ, ◌==◌, not, ◌&&◌, ◌||◌, Bool, true, false, true≢false, if◌then◌else◌, cond, codes, drop, List, [], ◌∷◌, ◌++◌, refl, sym, ap, ap₂, subst, ◌∙◌, arith}
use Rattle.std.proofs.lemmas.Bool.Decides.{nat_tests}
use Rattle.std.specs.List.{list_all, onto_first}
use Rattle.text_core.specs.Words.{words_of}
use Rattle.expect_text.specs.Fits.{after_byte, fits, in_word}
use Rattle.judge_laws.specs.Alike.{asks_no_sender, is_no_by}

-- ---- words of a pattern

-- what stands before the first space
first_part : List ℕ → List ℕ
first_part [] = []
first_part (p ∷ ps) = if p == 32 then [] else p ∷ first_part ps

-- the first word and the others
parts_are : (ps : List ℕ) → (more : List (List ℕ)) × (words_of ps ≡ first_part ps ∷ more)
unfolding first_part
parts_are [] = ([], refl)
parts_are (p ∷ ps) = by (p == 32) (parts_are ps)
  where
    by : (c : Bool) → (more : List (List ℕ)) × (words_of ps ≡ first_part ps ∷ more)
        → (more : List (List ℕ)) × (cond c ([] ∷ words_of ps) (onto_first p (words_of ps)) ≡ (if c then [] else p ∷ first_part ps) ∷ more)
    by true r = (words_of ps, refl)
    by false r = (r.0, ap (onto_first p) r.1)

-- the words after the first can't stand for it
pub AsksNone : List ℕ → Type 0
AsksNone ps = list_all is_no_by (drop 1 (words_of ps)) ≡ true

both_parts : (a b : Bool) → (a && b) ≡ true → (a ≡ true) × (b ≡ true)
both_parts true b h = (refl, h)
both_parts false b h = absurd (true≢false (sym h))

-- after a space: the next word can't, nor those after it
after_space : (ps : List ℕ) → AsksNone (32 ∷ ps) → (is_no_by (first_part ps) ≡ true) × AsksNone ps
unfolding AsksNone
after_space ps h =
    let r = parts_are ps in
    let both = both_parts (is_no_by (first_part ps)) (list_all is_no_by r.0) (ap (list_all is_no_by) (sym r.1) ∙ h) in
    (both.0, ap (λ (ws : List (List ℕ)). list_all is_no_by (drop 1 ws)) r.1 ∙ both.1)

after_other : (p : ℕ) (ps : List ℕ) → (p == 32) ≡ false → AsksNone (p ∷ ps) → AsksNone ps
unfolding AsksNone
after_other p ps e h =
    let r = parts_are ps in
    let here : words_of (p ∷ ps) ≡ (p ∷ first_part ps) ∷ r.0 = ap (λ (c : Bool). cond c ([] ∷ words_of ps) (onto_first p (words_of ps))) e ∙ ap (onto_first p) r.1 in
    ap (λ (ws : List (List ℕ)). list_all is_no_by (drop 1 ws)) r.1 ∙ ap (λ (ws : List (List ℕ)). list_all is_no_by (drop 1 ws)) (sym here) ∙ h

asks_after : (p : ℕ) (ps : List ℕ) → AsksNone (p ∷ ps) → AsksNone ps
asks_after p ps h = by (p == 32) refl
  where
    by : (c : Bool) → (p == 32) ≡ c → AsksNone ps
    by true e =
        let same : p ≡ 32 = grind (arith, nat_tests) in
        (after_space ps (subst (λ (x : ℕ). AsksNone (x ∷ ps)) same h)).1
    by false e = after_other p ps e h

-- ---- one word of a text

either : {T : Type 0} (a b : Bool) → (a || b) ≡ true → (a ≡ true → T) → (b ≡ true → T) → T
either true b h left right = left refl
either false b h left right = right h

or_left : (a b : Bool) → a ≡ true → (a || b) ≡ true
or_left a b h = rw h refl

or_right : (a b : Bool) → b ≡ true → (a || b) ≡ true
or_right true b h = refl
or_right false b h = h

and_both : (a b : Bool) → a ≡ true → b ≡ true → (a && b) ≡ true
and_both a b h k = rw (h, k) refl

-- without a space
abbrev is_solid : List ℕ → Bool
is_solid t = list_all (λ b. not (b == 32)) t

not_space : (b : ℕ) → (b == 32) ≡ true → not (b == 32) ≡ true → ⊥
not_space b h k = true≢false (sym k ∙ ap not h)

-- a star: what comes after it, then any byte of the word before that
star_goes : (f g : List ℕ → Bool) (r : List ℕ) → ((t : List ℕ) → is_solid t ≡ true → f (t ++ 32 ∷ r) ≡ true → g t ≡ true) → (t : List ℕ) → is_solid t ≡ true → in_word f (t ++ 32 ∷ r) ≡ true → in_word g t ≡ true
star_goes f g r one [] solid h = either (f (32 ∷ r)) false h (λ k. one [] refl k) (λ k. absurd (true≢false (sym k)))
star_goes f g r one (b ∷ t) solid h =
    let parts = both_parts (not (b == 32)) (is_solid t) solid in
    either (f (b ∷ (t ++ 32 ∷ r))) (not (b == 32) && in_word f (t ++ 32 ∷ r)) h
    (λ k. or_left (g (b ∷ t)) (not (b == 32) && in_word g t) (one (b ∷ t) solid k))
    (λ k. or_right (g (b ∷ t)) (not (b == 32) && in_word g t) (and_both (not (b == 32)) (in_word g t) parts.0 (star_goes f g r one t parts.1 (both_parts (not (b == 32)) (in_word f (t ++ 32 ∷ r)) k).1)))

-- what fits a word and what follows, fits that word with its first word
word_fits : (ps r t : List ℕ) → is_solid t ≡ true → fits ps (t ++ 32 ∷ r) ≡ true → fits (first_part ps) t ≡ true
unfolding first_part
word_fits [] r [] solid h = refl
word_fits [] r (b ∷ t) solid h = absurd (not_space b h (both_parts (not (b == 32)) (is_solid t) solid).0)
word_fits (p ∷ ps) r t solid h = by (p == 32) refl (p == 42) refl t solid h (word_fits ps r)
  where
    spaced : (t : List ℕ) → is_solid t ≡ true → after_byte 32 (fits ps) (t ++ 32 ∷ r) ≡ true → fits [] t ≡ true
    spaced [] solid h = refl
    spaced (b ∷ t) solid h = absurd (not_space b (both_parts (b == 32) (fits ps (t ++ 32 ∷ r)) h).0 (both_parts (not (b == 32)) (is_solid t) solid).0)

    plain : (p == 32) ≡ false → (t : List ℕ) → is_solid t ≡ true → after_byte p (fits ps) (t ++ 32 ∷ r) ≡ true → ((t : List ℕ) → is_solid t ≡ true → fits ps (t ++ 32 ∷ r) ≡ true → fits (first_part ps) t ≡ true)
        → after_byte p (fits (first_part ps)) t ≡ true
    plain e [] solid h later =
        let same : (32 == p) ≡ true = (both_parts (32 == p) (fits ps r) h).0 in
        let back : (p == 32) ≡ true = grind (arith, nat_tests) in
        absurd (true≢false (sym back ∙ e))
    plain e (b ∷ t) solid h later =
        let parts = both_parts (b == p) (fits ps (t ++ 32 ∷ r)) h in
        and_both (b == p) (fits (first_part ps) t) parts.0 (later t (both_parts (not (b == 32)) (is_solid t) solid).1 parts.1)

    by : (c : Bool) → (p == 32) ≡ c → (d : Bool) → (p == 42) ≡ d → (t : List ℕ) → is_solid t ≡ true → (if d then in_word (fits ps) (t ++ 32 ∷ r) else after_byte p (fits ps) (t ++ 32 ∷ r)) ≡ true
        → ((t : List ℕ) → is_solid t ≡ true → fits ps (t ++ 32 ∷ r) ≡ true → fits (first_part ps) t ≡ true) → fits (if c then [] else p ∷ first_part ps) t ≡ true
    by true e true g t solid h later =
        let space : p ≡ 32 = grind (arith, nat_tests) in
        let star : p ≡ 42 = grind (arith, nat_tests) in
        absurd (omega (arith, space, star))
    by true e false g t solid h later =
        let space : p ≡ 32 = grind (arith, nat_tests) in
        spaced t solid (subst (λ (x : ℕ). after_byte x (fits ps) (t ++ 32 ∷ r) ≡ true) space h)
    by false e true g t solid h later =
        ap (λ (d : Bool). if d then in_word (fits (first_part ps)) t else after_byte p (fits (first_part ps)) t) g ∙ star_goes (fits ps) (fits (first_part ps)) r later t solid h
    by false e false g t solid h later =
        ap (λ (d : Bool). if d then in_word (fits (first_part ps)) t else after_byte p (fits (first_part ps)) t) g ∙ plain e t solid h later

-- ---- a text and who sent

-- a word that can't stand for `by` does not fit what begins so
no_by : (ps r : List ℕ) → is_no_by (first_part ps) ≡ true → fits ps (codes "by" ++ 32 ∷ r) ≡ false
no_by ps r h = by (fits ps (codes "by" ++ 32 ∷ r)) refl
  where
    by : (c : Bool) → fits ps (codes "by" ++ 32 ∷ r) ≡ c → c ≡ false
    by false e = refl
    by true e = absurd (true≢false (sym h ∙ ap not (word_fits ps r (codes "by") refl e)))

module _ (r : List ℕ) where
  star_same : (f : List ℕ → Bool) → ((t : List ℕ) → f (t ++ 32 ∷ (codes "by" ++ 32 ∷ r)) ≡ f t) → (t : List ℕ) → in_word f (t ++ 32 ∷ (codes "by" ++ 32 ∷ r)) ≡ in_word f t
  star_same f one [] = or_false (f (32 ∷ (codes "by" ++ 32 ∷ r))) ∙ one []
    where
      or_false : (b : Bool) → (b || false) ≡ b
      or_false true = refl
      or_false false = refl
  star_same f one (b ∷ t) = ap₂ (λ (x y : Bool). x || (not (b == 32) && y)) (one (b ∷ t)) (star_same f one t)

  pub bare_fits : (ps : List ℕ) → AsksNone ps → (t : List ℕ) → fits ps (t ++ 32 ∷ (codes "by" ++ 32 ∷ r)) ≡ fits ps t
  bare_fits [] h [] = refl
  bare_fits [] h (b ∷ t) = refl
  bare_fits (p ∷ ps) h t = by (p == 42) t (bare_fits ps (asks_after p ps h))
    where
      ends : (c : Bool) → (32 == p) ≡ c → (c && fits ps (codes "by" ++ 32 ∷ r)) ≡ false
      ends false e = refl
      ends true e =
          let space : p ≡ 32 = grind (arith, nat_tests) in
          no_by ps r (after_space ps (subst (λ (x : ℕ). AsksNone (x ∷ ps)) space h)).0

      plain : (t : List ℕ) → ((t : List ℕ) → fits ps (t ++ 32 ∷ (codes "by" ++ 32 ∷ r)) ≡ fits ps t) → after_byte p (fits ps) (t ++ 32 ∷ (codes "by" ++ 32 ∷ r)) ≡ after_byte p (fits ps) t
      plain [] later = ends (32 == p) refl
      plain (b ∷ t) later = ap (λ (x : Bool). (b == p) && x) (later t)

      by : (d : Bool) (t : List ℕ) → ((t : List ℕ) → fits ps (t ++ 32 ∷ (codes "by" ++ 32 ∷ r)) ≡ fits ps t)
          → (if d then in_word (fits ps) (t ++ 32 ∷ (codes "by" ++ 32 ∷ r)) else after_byte p (fits ps) (t ++ 32 ∷ (codes "by" ++ 32 ∷ r))) ≡ (if d then in_word (fits ps) t else after_byte p (fits ps) t)
      by true t later = star_same (fits ps) later t
      by false t later = plain t later

pub asks : (pattern : List ℕ) → asks_no_sender pattern ≡ true → AsksNone pattern
unfolding AsksNone
asks pattern h = h

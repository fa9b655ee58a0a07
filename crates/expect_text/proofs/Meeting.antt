-- A pattern is met by a text of these parts exactly where it is found to be.
use Rattle.std.proofs.Common.{◌≡◌, ℕ, ◌<◌, ◌==◌, ◌&&◌, ◌||◌, not, Bool, true, false, if◌then◌else◌, List, [], ◌∷◌, ◌++◌, Some, refl, sym, ap, subst, rules, ◌∙◌, arith, slice_get, zero, suc, true≢false}
use Rattle.std.specs.List.{list_all, list_any}
use Rattle.std.proofs.lemmas.Grind.{common_steps}
use Rattle.text_core.specs.Piece.{hex_text}
use Rattle.message_table.specs.WordSets.{NamedByte, words_of}
use Rattle.message_table.specs.declared.word_set.WordSet.{WordSet}
use Rattle.message_table.specs.declared.word_set.WordSet.TheVariants as sets
use Rattle.message_text.specs.FrameText.{opcode_text}
use Rattle.expect_text.specs.Fits.{fits, in_word, after_byte as fits_byte}
use Rattle.expect_text.specs.Parts.{IsEnd, IsTextBefore, IsTextOf, after_byte, after_many, after_one, after_set, after_text, after_unworded, after_word, end_met, has, has_word, is_met, is_met_unworded}
use Rattle.expect_text.specs.declared.part.Class.{Class}
use Rattle.expect_text.specs.declared.part.Class.TheVariants as classes
use Rattle.expect_text.specs.declared.part.PatternPart.{PatternPart}
use Rattle.expect_text.specs.declared.part.PatternPart.TheVariants.{Byte, One, Many, Word, Unworded, Opcode}
use Rattle.expect_text.specs.declared.part.Worded.{Worded}
use Rattle.expect_text.specs.declared.part.Worded.TheVariants.{Listed, Character, Quoted, Loudness}
use Rattle.expect_text.proofs.Below.{below_only, below_some}
use Rattle.expect_text.proofs.Truth.{or_left, or_right, either, and_both, first_of, second_of}

pub same_byte : (a b : ℕ) → (a == b) ≡ true → a ≡ b
same_byte a b h = grind (arith, common_steps)

itself : (b : ℕ) → (b == b) ≡ true
itself b = grind (arith, common_steps)

turned : (a b : ℕ) → (a == b) ≡ true → (b == a) ≡ true
turned a b h = grind (arith, common_steps)

-- ---- a star

here : (f : List ℕ → Bool) (text : List ℕ) → f text ≡ true → in_word f text ≡ true
here f [] h = h
here f (b ∷ bs) h = or_left (f (b ∷ bs)) (not (b == 32) && in_word f bs) h

-- it goes over a byte
over : (f : List ℕ → Bool) (b : ℕ) (bs : List ℕ) → not (b == 32) ≡ true → in_word f bs ≡ true → in_word f (b ∷ bs) ≡ true
over f b bs word h = or_right (f (b ∷ bs)) (not (b == 32) && in_word f bs) (and_both (not (b == 32)) (in_word f bs) word h)

-- a pattern that begins with a star, and one that begins with another byte
starred : (p : ℕ) (ps text : List ℕ) → (p == 42) ≡ true → fits (p ∷ ps) text ≡ in_word (fits ps) text
starred p ps text h = ap (λ (b : Bool). if b then in_word (fits ps) text else fits_byte p (fits ps) text) h

pub plain : (p : ℕ) (ps text : List ℕ) → (p == 42) ≡ false → fits (p ∷ ps) text ≡ fits_byte p (fits ps) text
plain p ps text h = ap (λ (b : Bool). if b then in_word (fits ps) text else fits_byte p (fits ps) text) h

-- ---- what is met by some texts

-- a pattern is found to be met exactly where one of some texts meets it; there is such a text
pub record Decides (met : List ℕ → Bool) (Texts : List ℕ → Type 0) : Type 0 where
  pub only : (pattern text : List ℕ) → Texts text → fits pattern text ≡ true → met pattern ≡ true
  pub some : (pattern : List ℕ) → met pattern ≡ true → (text : List ℕ) × Texts text × (fits pattern text ≡ true)
  pub any : (text : List ℕ) × Texts text

-- one byte before them
abbrev pub BytesBefore : (ℕ → Bool) → (List ℕ → Type 0) → List ℕ → Type 0
BytesBefore may_be Texts text = (b : ℕ) × (more : List ℕ) × (may_be b ≡ true) × (text ≡ b ∷ more) × Texts more

-- any number of bytes before them
abbrev pub ManyBefore : (ℕ → Bool) → (List ℕ → Type 0) → List ℕ → Type 0
ManyBefore may_be Texts text = (front : List ℕ) × (more : List ℕ) × (list_all may_be front ≡ true) × (text ≡ front ++ more) × Texts more

module _ (may_be : ℕ → Bool) (met : List ℕ → Bool) (Texts : List ℕ → Type 0) (d : Decides met Texts) where
  module _ (is_word : Bool) (words : (b : ℕ) → may_be b ≡ true → not (b == 32) ≡ true → is_word ≡ true) (word : is_word ≡ true → (b : ℕ) × (may_be b ≡ true) × (not (b == 32) ≡ true)) where
    one_only : (pattern : List ℕ) (b : ℕ) (more : List ℕ) → may_be b ≡ true → Texts more → fits pattern (b ∷ more) ≡ true → after_one may_be is_word met pattern ≡ true
    one_only [] b more h t f = subst (λ n. may_be n ≡ true) (same_byte b 32 f) h
    one_only (p ∷ ps) b more h t f = by (p == 42) refl (one_only ps b more h t)
      where
        by : (c : Bool) → (p == 42) ≡ c → (fits ps (b ∷ more) ≡ true → after_one may_be is_word met ps ≡ true)
            → (if c then after_one may_be is_word met ps || (is_word && met (p ∷ ps)) else may_be p && met ps) ≡ true
        by true k later =
            either (fits ps (b ∷ more)) (not (b == 32) && in_word (fits ps) more) (sym (starred p ps (b ∷ more) k) ∙ f)
            (λ e. or_left (after_one may_be is_word met ps) (is_word && met (p ∷ ps)) (later e))
            (λ e. or_right (after_one may_be is_word met ps) (is_word && met (p ∷ ps)) (and_both is_word (met (p ∷ ps))
            (words b h (first_of (not (b == 32)) (in_word (fits ps) more) e))
            (d.only (p ∷ ps) more t (starred p ps more k ∙ second_of (not (b == 32)) (in_word (fits ps) more) e))))
        by false k later =
            let e : ((b == p) && fits ps more) ≡ true = sym (plain p ps (b ∷ more) k) ∙ f in
            and_both (may_be p) (met ps) (subst (λ n. may_be n ≡ true) (same_byte b p (first_of (b == p) (fits ps more) e)) h)
            (d.only ps more t (second_of (b == p) (fits ps more) e))

    one_some : (pattern : List ℕ) → after_one may_be is_word met pattern ≡ true → (text : List ℕ) × BytesBefore may_be Texts text × (fits pattern text ≡ true)
    one_some [] h = (32 ∷ d.any.0, (32, d.any.0, h, refl, d.any.1), refl)
    one_some (p ∷ ps) h = by (p == 42) refl h (one_some ps)
      where
        by : (c : Bool) → (p == 42) ≡ c → (if c then after_one may_be is_word met ps || (is_word && met (p ∷ ps)) else may_be p && met ps) ≡ true
            → (after_one may_be is_word met ps ≡ true → (text : List ℕ) × BytesBefore may_be Texts text × (fits ps text ≡ true))
            → (text : List ℕ) × BytesBefore may_be Texts text × (fits (p ∷ ps) text ≡ true)
        by true k g later =
            either (after_one may_be is_word met ps) (is_word && met (p ∷ ps)) g
            (λ e. let r = later e in (r.0, r.1, starred p ps r.0 k ∙ here (fits ps) r.0 r.2))
            (λ e. let w = word (first_of is_word (met (p ∷ ps)) e) in
            let m = d.some (p ∷ ps) (second_of is_word (met (p ∷ ps)) e) in
            (w.0 ∷ m.0, (w.0, m.0, w.1, refl, m.1), starred p ps (w.0 ∷ m.0) k ∙ over (fits ps) w.0 m.0 w.2 (sym (starred p ps m.0 k) ∙ m.2)))
        by false k g later =
            let m = d.some ps (second_of (may_be p) (met ps) g) in
            (p ∷ m.0, (p, m.0, first_of (may_be p) (met ps) g, refl, m.1), plain p ps (p ∷ m.0) k ∙ and_both (p == p) (fits ps m.0) (itself p) m.2)

    pub one_decides : (b : ℕ) → may_be b ≡ true → Decides (after_one may_be is_word met) (BytesBefore may_be Texts)
    one_decides b h = record {
      only = λ pattern text t f. one_only pattern t.0 t.1 t.2 t.4 (subst (λ x. fits pattern x ≡ true) t.3 f);
      some = one_some;
      any = (b ∷ d.any.0, (b, d.any.0, h, refl, d.any.1));
    }

  many_step : (p : ℕ) (ps : List ℕ) (b : ℕ) (bs more : List ℕ) → list_all may_be (b ∷ bs) ≡ true → fits (p ∷ ps) ((b ∷ bs) ++ more) ≡ true
      → ((front : List ℕ) → list_all may_be front ≡ true → fits ps (front ++ more) ≡ true → after_many may_be met ps ≡ true)
      → (fits (p ∷ ps) (bs ++ more) ≡ true → after_many may_be met (p ∷ ps) ≡ true) → after_many may_be met (p ∷ ps) ≡ true
  many_step p ps b bs more h f later same = by (p == 42) refl
    where
      go_on : ((p == 42) || may_be p) ≡ true → after_many may_be met ps ≡ true → after_many may_be met (p ∷ ps) ≡ true
      go_on k m = or_right (met (p ∷ ps)) (((p == 42) || may_be p) && after_many may_be met ps) (and_both ((p == 42) || may_be p) (after_many may_be met ps) k m)

      by : (c : Bool) → (p == 42) ≡ c → after_many may_be met (p ∷ ps) ≡ true
      by true k =
          either (fits ps (b ∷ (bs ++ more))) (not (b == 32) && in_word (fits ps) (bs ++ more)) (sym (starred p ps (b ∷ (bs ++ more)) k) ∙ f)
          (λ e. go_on (or_left (p == 42) (may_be p) k) (later (b ∷ bs) h e))
          (λ e. same (starred p ps (bs ++ more) k ∙ second_of (not (b == 32)) (in_word (fits ps) (bs ++ more)) e))
      by false k =
          let e : ((b == p) && fits ps (bs ++ more)) ≡ true = sym (plain p ps (b ∷ (bs ++ more)) k) ∙ f in
          go_on (or_right (p == 42) (may_be p) (subst (λ n. may_be n ≡ true) (same_byte b p (first_of (b == p) (fits ps (bs ++ more)) e)) (first_of (may_be b) (list_all may_be bs) h)))
          (later bs (second_of (may_be b) (list_all may_be bs) h) (second_of (b == p) (fits ps (bs ++ more)) e))

  many_each : (p : ℕ) (ps more : List ℕ) → Texts more
      → ((front : List ℕ) → list_all may_be front ≡ true → fits ps (front ++ more) ≡ true → after_many may_be met ps ≡ true)
      → (front : List ℕ) → list_all may_be front ≡ true → fits (p ∷ ps) (front ++ more) ≡ true → after_many may_be met (p ∷ ps) ≡ true
  many_each p ps more t later [] h f = or_left (met (p ∷ ps)) (((p == 42) || may_be p) && after_many may_be met ps) (d.only (p ∷ ps) more t f)
  many_each p ps more t later (b ∷ bs) h f =
      many_step p ps b bs more h f later (many_each p ps more t later bs (second_of (may_be b) (list_all may_be bs) h))

  many_only : (pattern more : List ℕ) → Texts more → (front : List ℕ) → list_all may_be front ≡ true → fits pattern (front ++ more) ≡ true → after_many may_be met pattern ≡ true
  many_only [] more t [] h f = or_left (met []) (may_be 32) (d.only [] more t f)
  many_only [] more t (b ∷ bs) h f = or_right (met []) (may_be 32) (subst (λ n. may_be n ≡ true) (same_byte b 32 f) (first_of (may_be b) (list_all may_be bs) h))
  many_only (p ∷ ps) more t front h f = many_each p ps more t (many_only ps more t) front h f

  many_more : (p : ℕ) (ps : List ℕ) → (c : Bool) → (p == 42) ≡ c → (c || may_be p) ≡ true → (text : List ℕ) × ManyBefore may_be Texts text × (fits ps text ≡ true)
      → (text : List ℕ) × ManyBefore may_be Texts text × (fits (p ∷ ps) text ≡ true)
  many_more p ps true k g r = (r.0, r.1, starred p ps r.0 k ∙ here (fits ps) r.0 r.2)
  many_more p ps false k g r =
      (p ∷ r.0, (p ∷ r.1.0, r.1.1, and_both (may_be p) (list_all may_be r.1.0) g r.1.2, ap (λ (x : List ℕ). p ∷ x) r.1.3, r.1.4), plain p ps (p ∷ r.0) k ∙ and_both (p == p) (fits ps r.0) (itself p) r.2)

  none_before : (pattern : List ℕ) → met pattern ≡ true → (text : List ℕ) × ManyBefore may_be Texts text × (fits pattern text ≡ true)
  none_before pattern h = let m = d.some pattern h in (m.0, ([], m.0, refl, refl, m.1), m.2)

  many_some : (pattern : List ℕ) → after_many may_be met pattern ≡ true → (text : List ℕ) × ManyBefore may_be Texts text × (fits pattern text ≡ true)
  many_some [] h = either (met []) (may_be 32) h (none_before [])
      (λ e. (32 ∷ d.any.0, (32 ∷ [], d.any.0, and_both (may_be 32) true e refl, refl, d.any.1), refl))
  many_some (p ∷ ps) h = either (met (p ∷ ps)) (((p == 42) || may_be p) && after_many may_be met ps) h (none_before (p ∷ ps))
      (λ e. many_more p ps (p == 42) refl (first_of ((p == 42) || may_be p) (after_many may_be met ps) e) (many_some ps (second_of ((p == 42) || may_be p) (after_many may_be met ps) e)))

  pub many_decides : Decides (after_many may_be met) (ManyBefore may_be Texts)
  many_decides = record {
    only = λ pattern text t f. many_only pattern t.1 t.4 t.0 t.2 (subst (λ x. fits pattern x ≡ true) t.3 f);
    some = many_some;
    any = (d.any.0, ([], d.any.0, refl, refl, d.any.1));
  }

-- ---- parts

module _ (met : List ℕ → Bool) (Texts : List ℕ → Type 0) (d : Decides met Texts) where
  byte_decides : (b : ℕ) → Decides (after_byte b met) (λ text. (more : List ℕ) × (text ≡ b ∷ more) × Texts more)
  byte_decides b =
      let same = one_decides (λ p. b == p) met Texts d (not (b == 32)) (λ p h k. subst (λ n. not (n == 32) ≡ true) (sym (same_byte b p h)) k) (λ k. (b, itself b, k)) b (itself b) in
      record {
        only = λ pattern text t f. same.only pattern text (b, t.0, itself b, t.1, t.2) f;
        some = λ pattern h. let r = same.some pattern h in
            (r.0, (r.1.1, r.1.3 ∙ ap (λ (n : ℕ). n ∷ r.1.1) (sym (same_byte b r.1.0 r.1.2)), r.1.4), r.2);
        any = (b ∷ d.any.0, (d.any.0, refl, d.any.1));
      }

module _ (met : List ℕ → Bool) (Texts : List ℕ → Type 0) (d : Decides met Texts) where
  pub text_decides : (front : List ℕ) → Decides (after_text front met) (λ text. (more : List ℕ) × (text ≡ front ++ more) × Texts more)
  text_decides [] = record {
    only = λ pattern text t f. d.only pattern t.0 t.2 (subst (λ x. fits pattern x ≡ true) t.1 f);
    some = λ pattern h. let m = d.some pattern h in (m.0, (m.0, refl, m.1), m.2);
    any = (d.any.0, (d.any.0, refl, d.any.1));
  }
  text_decides (b ∷ bs) =
      let after = text_decides bs in
      let same = byte_decides (after_text bs met) (λ text. (more : List ℕ) × (text ≡ bs ++ more) × Texts more) after b in
      record {
        only = λ pattern text t f. same.only pattern text (bs ++ t.0, t.1, (t.0, refl, t.2)) f;
        some = λ pattern h. let r = same.some pattern h in (r.0, (r.1.2.0, r.1.1 ∙ ap (λ (x : List ℕ). b ∷ x) r.1.2.1, r.1.2.2), r.2);
        any = (b ∷ (bs ++ d.any.0), (d.any.0, refl, d.any.1));
      }

same_some : {X : Type 0} (y x : X) → Some y ≡ Some x → y ≡ x
same_some y x e = search rules

pub any_only : {X : Type 0} (f : X → Bool) (xs : List X) (i : ℕ) (x : X) → slice_get xs i ≡ Some x → f x ≡ true → list_any f xs ≡ true
any_only f [] i x e h = cc
any_only f (y ∷ ys) zero x e h = or_left (f y) (list_any f ys) (ap f (same_some y x e) ∙ h)
any_only f (y ∷ ys) (suc i) x e h = or_right (f y) (list_any f ys) (any_only f ys i x e h)

pub any_some : {X : Type 0} (f : X → Bool) (xs : List X) → list_any f xs ≡ true → (i : ℕ) × (x : X) × (slice_get xs i ≡ Some x) × (f x ≡ true)
any_some f [] h = absurd (true≢false (sym h))
any_some f (y ∷ ys) h = either (f y) (list_any f ys) h (λ e. (0, y, refl, e)) (λ e. let r = any_some f ys e in (suc r.0, r.1, r.2, r.3))

-- a byte of a class, that is no space
a_byte : (class : Class) → (b : ℕ) × (has class b ≡ true) × (not (b == 32) ≡ true)
a_byte classes.Hex = (48, refl, refl)
a_byte classes.Directed = (48, refl, refl)
a_byte classes.Digit = (48, refl, refl)
a_byte classes.NonZero = (49, refl, refl)
a_byte classes.UpToFive = (48, refl, refl)
a_byte classes.Letter = (97, refl, refl)
a_byte classes.Quotable = (97, refl, refl)
a_byte classes.Any = (48, refl, refl)

-- a word of a set
a_word : (set : WordSet) → (w : NamedByte) × (slice_get (words_of set) 0 ≡ Some w)
a_word sets.Reason = (_, refl)
a_word sets.Power = (_, refl)
a_word sets.OnOff = (_, refl)
a_word sets.DeviceType = (_, refl)
a_word sets.StatusRequest = (_, refl)
a_word sets.DeckInfo = (_, refl)
a_word sets.PlayMode = (_, refl)
a_word sets.DeckControl = (_, refl)
a_word sets.Display = (_, refl)
a_word sets.MenuRequest = (_, refl)
a_word sets.MenuState = (_, refl)
a_word sets.Version = (_, refl)
a_word sets.UserControl = (_, refl)

all_any : (text : List ℕ) → list_all (has classes.Any) text ≡ true
all_any [] = refl
all_any (b ∷ bs) = all_any bs

pub append_none : (text : List ℕ) → text ++ [] ≡ text
append_none [] = refl
append_none (b ∷ bs) = ap (λ (x : List ℕ). b ∷ x) (append_none bs)

-- the words of a set
pub by_set : (set : WordSet) (met : List ℕ → Bool) (pattern : List ℕ) (words : List NamedByte) → words ≡ words_of set → after_word words met pattern ≡ after_set set met pattern
unfolding after_set
by_set set met pattern words same = ap (λ (ws : List NamedByte). after_word ws met pattern) same

-- a byte that has no word
a_spoilt : (kind : Worded) → (b : ℕ) × (b < 256) × (has_word kind b ≡ false)
a_spoilt (Listed sets.Reason) = (255, omega arith, refl)
a_spoilt (Listed sets.Power) = (255, omega arith, refl)
a_spoilt (Listed sets.OnOff) = (255, omega arith, refl)
a_spoilt (Listed sets.DeviceType) = (255, omega arith, refl)
a_spoilt (Listed sets.StatusRequest) = (255, omega arith, refl)
a_spoilt (Listed sets.DeckInfo) = (255, omega arith, refl)
a_spoilt (Listed sets.PlayMode) = (255, omega arith, refl)
a_spoilt (Listed sets.DeckControl) = (255, omega arith, refl)
a_spoilt (Listed sets.Display) = (255, omega arith, refl)
a_spoilt (Listed sets.MenuRequest) = (255, omega arith, refl)
a_spoilt (Listed sets.MenuState) = (255, omega arith, refl)
a_spoilt (Listed sets.Version) = (255, omega arith, refl)
a_spoilt (Listed sets.UserControl) = (255, omega arith, refl)
a_spoilt Character = (0, omega arith, refl)
a_spoilt Quoted = (0, omega arith, refl)
a_spoilt Loudness = (127, omega arith, refl)

not_so : (b : Bool) → b ≡ false → not b ≡ true
not_so b h = ap not h

pub is_not : (b : Bool) → not b ≡ true → b ≡ false
is_not true h = absurd (true≢false (sym h))
is_not false h = refl

pub end_decides : Decides end_met IsEnd
end_decides = record {
  only = λ pattern text t f. subst (λ x. fits pattern x ≡ true) t f;
  some = λ pattern h. ([], refl, h);
  any = ([], refl);
}

module _ (met : List ℕ → Bool) (Rest : List ℕ → Type 0) (end : Decides met Rest) where
  pub decides : (parts : List PatternPart) → Decides (is_met met parts) (IsTextBefore Rest parts)
  unfolding after_set after_unworded
  decides [] = record { only = end.only; some = end.some; any = end.any }
  decides (Byte b ∷ parts) = let same = byte_decides (is_met met parts) (IsTextBefore Rest parts) (decides parts) b in
      record { only = same.only; some = same.some; any = same.any }
  decides (One class ∷ parts) =
      let b = a_byte class in
      let same = one_decides (has class) (is_met met parts) (IsTextBefore Rest parts) (decides parts) true (λ b h k. refl) (λ k. b) b.0 b.1 in
      record { only = same.only; some = same.some; any = same.any }
  decides (Many class ∷ parts) = let same = many_decides (has class) (is_met met parts) (IsTextBefore Rest parts) (decides parts) in
      record { only = same.only; some = same.some; any = same.any }
  decides (Word set ∷ parts) =
      let d = decides parts in
      let w = a_word set in
      record {
        only = λ pattern text t f. any_only (λ (w : NamedByte). after_text w.text (is_met met parts) pattern) (words_of set) t.0 t.1 t.3
            ((text_decides (is_met met parts) (IsTextBefore Rest parts) d t.1.text).only pattern text (t.2, t.4, t.5) f);
        some = λ pattern h. let a = any_some (λ (w : NamedByte). after_text w.text (is_met met parts) pattern) (words_of set) h in
            let r = (text_decides (is_met met parts) (IsTextBefore Rest parts) d a.1.text).some pattern a.3 in
            (r.0, (a.0, a.1, r.1.0, a.2, r.1.1, r.1.2), r.2);
        any = (w.0.text ++ d.any.0, (0, w.0, d.any.0, w.1, refl, d.any.1));
      }
  decides (Unworded kind ∷ parts) =
      let d = decides parts in
      let w = a_spoilt kind in
      record {
        only = λ pattern text t f. below_only (is_met_unworded kind (is_met met parts) pattern) 256 t.0 t.2
            (and_both (not (has_word kind t.0)) (after_text (hex_text t.0) (is_met met parts) pattern) (not_so (has_word kind t.0) t.3)
            ((text_decides (is_met met parts) (IsTextBefore Rest parts) d (hex_text t.0)).only pattern text (t.1, t.4, t.5) f));
        some = λ pattern h. let a = below_some (is_met_unworded kind (is_met met parts) pattern) 256 h in
            let r = (text_decides (is_met met parts) (IsTextBefore Rest parts) d (hex_text a.0)).some pattern (second_of (not (has_word kind a.0)) (after_text (hex_text a.0) (is_met met parts) pattern) a.2) in
            (r.0, (a.0, r.1.0, a.1, is_not (has_word kind a.0) (first_of (not (has_word kind a.0)) (after_text (hex_text a.0) (is_met met parts) pattern) a.2), r.1.1, r.1.2), r.2);
        any = (hex_text w.0 ++ d.any.0, (w.0, d.any.0, w.1, w.2, refl, d.any.1));
      }
  decides (Opcode code ∷ parts) = let same = text_decides (is_met met parts) (IsTextBefore Rest parts) (decides parts) (opcode_text code) in
      record { only = same.only; some = same.some; any = same.any }

  -- ---- a front that no text has

  -- any text that begins with such a front
  front_of : (front rest : List PatternPart) (text : List ℕ) → IsTextBefore Rest (front ++ rest) text → IsTextOf (front ++ Many classes.Any ∷ []) text
  front_of [] rest text t = (text, [], all_any text, sym (append_none text), refl)
  front_of (Byte b ∷ front) rest text t = (t.0, t.1, front_of front rest t.0 t.2)
  front_of (One class ∷ front) rest text t = (t.0, t.1, t.2, t.3, front_of front rest t.1 t.4)
  front_of (Many class ∷ front) rest text t = (t.0, t.1, t.2, t.3, front_of front rest t.1 t.4)
  front_of (Word set ∷ front) rest text t = (t.0, t.1, t.2, t.3, t.4, front_of front rest t.2 t.5)
  front_of (Unworded kind ∷ front) rest text t = (t.0, t.1, t.2, t.3, t.4, front_of front rest t.1 t.5)
  front_of (Opcode code ∷ front) rest text t = (t.0, t.1, front_of front rest t.0 t.2)

-- where no text with this front meets a pattern, none of more parts does
pub needs_front : (met : List ℕ → Bool) (Rest : List ℕ → Type 0) → Decides met Rest → (front rest : List PatternPart) (pattern : List ℕ)
    → is_met end_met (front ++ Many classes.Any ∷ []) pattern ≡ false → is_met met (front ++ rest) pattern ≡ false
needs_front met Rest end front rest pattern none = by (is_met met (front ++ rest) pattern) refl
  where
    by : (b : Bool) → is_met met (front ++ rest) pattern ≡ b → b ≡ false
    by false h = refl
    by true h =
        let r = (decides met Rest end (front ++ rest)).some pattern h in
        let found = (decides end_met IsEnd end_decides (front ++ Many classes.Any ∷ [])).only pattern r.0 (front_of met Rest end front rest r.0 r.1) r.2 in
        sym found ∙ none

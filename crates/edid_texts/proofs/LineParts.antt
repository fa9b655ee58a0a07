-- The parts of lines.
use Rattle.std.proofs.Common.{◌≡◌, ℕ, List, [], Option, Some, None, MatchOption, ap, refl, sym, ◌∙◌, codes}
use Rattle.arrayvec.specs.ArrayVec.{ArrayVec}
use Rattle.edid_base.specs.declared.descriptor.Descriptor.{Descriptor}
use Rattle.edid_base.specs.declared.descriptor.Descriptor.TheVariants.{Timing as OfTiming, Name as OfName, Text as OfText, SerialText as OfSerialText, Range as OfRange, Dummy as OfDummy, Raw as OfRaw}
use Rattle.edid_base.specs.declared.descriptor.RangeLimits.{RangeLimits}
use Rattle.edid_base.specs.declared.descriptor.RawDescriptor.{RawDescriptor}
use Rattle.edid_base.specs.declared.standard.StandardTiming.{StandardTiming}
use Rattle.edid_base.specs.declared.text.Text.{Text as AnyText}
use Rattle.edid_base.specs.declared.timing.Timing.{Timing as DetailedTiming}
use Rattle.edid_texts.specs.Lines.{letters_line, numbers_line, bytes_line, quoted_line, timing_line, descriptor_line, standard_line}
use Rattle.edid_base.specs.Timing.{timing_numbers}
use Rattle.edid_text_lines.specs.declared.line.Keyword.{Keyword}
use Rattle.edid_text_lines.specs.declared.line.Keyword.TheVariants.{Standard, Timing, Name, Text, SerialText, Range, Raw}
use Rattle.edid_text_lines.specs.declared.line.Fields.{Fields}
use Rattle.edid_text_lines.specs.declared.line.Fields.TheVariants.{Letters, Numbers, Timed, Bytes, Quoted}
use Rattle.edid_text_lines.specs.declared.line.Line.{Line}

-- what stands in fields of one list
abbrev list_in : Fields → List ℕ
list_in (Letters letters) = letters.items
list_in (Numbers numbers) = numbers.items
list_in (Bytes bytes) = bytes.items
list_in (Quoted chars) = chars.items
list_in fields = []

pub same_bytes_line : (w : Keyword) (a b : List ℕ) → bytes_line w a ≡ bytes_line w b → a ≡ b
same_bytes_line w a b e = ap (λ l. list_in l.fields) e

abbrev line_with : Keyword → Fields → Line
line_with w f = record { word = w; fields = f }

same_list : (fields : List ℕ → Fields) (w : Keyword) → ((xs : List ℕ) → list_in (fields xs) ≡ xs) → (a b : List ℕ) → line_with w (fields a) ≡ line_with w (fields b) → a ≡ b
same_list fields w back a b e = sym (back a) ∙ ap (λ l. list_in l.fields) e ∙ back b

-- a value by its list is told by the line that has the list
reported : {A : Type 0} (f : A → List ℕ) (fields : List ℕ → Fields) (w : Keyword) → ((xs : List ℕ) → list_in (fields xs) ≡ xs) → (xs : List ℕ) (l : Line) (r : Option A)
    → line_with w (fields xs) ≡ l → MatchOption r ((a : A) → f a ≡ xs → ⊥) (λ a. f a ≡ xs)
    → MatchOption r ((a : A) → line_with w (fields (f a)) ≡ l → ⊥) (λ a. line_with w (fields (f a)) ≡ l)
reported f fields w back xs l None is h = λ a e. h a (same_list fields w back (f a) xs (e ∙ sym is))
reported f fields w back xs l (Some a) is h = ap (λ ys. line_with w (fields ys)) h ∙ is

pub reported_letters : {A : Type 0} (f : A → List ℕ) (w : Keyword) (xs : List ℕ) (l : Line) (r : Option A) → letters_line w xs ≡ l
    → MatchOption r ((a : A) → f a ≡ xs → ⊥) (λ a. f a ≡ xs) → MatchOption r ((a : A) → letters_line w (f a) ≡ l → ⊥) (λ a. letters_line w (f a) ≡ l)
reported_letters f w xs l r is h = reported f (λ ys. Letters (record { items = ys })) w (λ ys. refl) xs l r is h

pub reported_numbers : {A : Type 0} (f : A → List ℕ) (w : Keyword) (xs : List ℕ) (l : Line) (r : Option A) → numbers_line w xs ≡ l
    → MatchOption r ((a : A) → f a ≡ xs → ⊥) (λ a. f a ≡ xs) → MatchOption r ((a : A) → numbers_line w (f a) ≡ l → ⊥) (λ a. numbers_line w (f a) ≡ l)
reported_numbers f w xs l r is h = reported f (λ ys. Numbers (record { items = ys })) w (λ ys. refl) xs l r is h

pub reported_quoted : {A : Type 0} (f : A → List ℕ) (w : Keyword) (xs : List ℕ) (l : Line) (r : Option A) → quoted_line w xs ≡ l
    → MatchOption r ((a : A) → f a ≡ xs → ⊥) (λ a. f a ≡ xs) → MatchOption r ((a : A) → quoted_line w (f a) ≡ l → ⊥) (λ a. quoted_line w (f a) ≡ l)
reported_quoted f w xs l r is h = reported f (λ ys. Quoted (record { items = ys })) w (λ ys. refl) xs l r is h

same_parts : (l : Line) (w : Keyword) (f : Fields) → l.word ≡ w → l.fields ≡ f → record { word = w; fields = f } ≡ l
same_parts l w f e g = ap (λ x. record { word = x; fields = f }) (sym e) ∙ ap (λ y. record { word = l.word; fields = y }) (sym g)

pub timed_line : (l : Line) (numbers : ArrayVec ℕ) (flags : ℕ) (ns : List ℕ) (r : Option DetailedTiming) → ns ≡ numbers.items → l.word ≡ Timing → l.fields ≡ Timed numbers flags
    → MatchOption r ((t : DetailedTiming) → timing_numbers t ≡ ns → t.flags ≡ flags → ⊥) (λ t. (timing_numbers t ≡ ns) × (t.flags ≡ flags))
    → MatchOption r ((t : DetailedTiming) → timing_line t ≡ l → ⊥) (λ t. timing_line t ≡ l)
timed_line l numbers flags ns None items word fields h = λ t e.
    let parts : Timed (record { items = timing_numbers t }) t.flags ≡ Timed numbers flags = ap (λ x. x.fields) e ∙ fields in
    h t (the_numbers _ _ _ _ parts ∙ sym items) (the_flags _ _ _ _ parts)
  where
    the_numbers : (a b : ArrayVec ℕ) (x y : ℕ) → Timed a x ≡ Timed b y → a.items ≡ b.items
    the_numbers a b x y e = let same : a ≡ b = cc in ap (λ v. v.items) same

    the_flags : (a b : ArrayVec ℕ) (x y : ℕ) → Timed a x ≡ Timed b y → x ≡ y
    the_flags a b x y e = cc
timed_line l numbers flags ns (Some t) items word fields h =
    let same : Timed (record { items = timing_numbers t }) t.flags ≡ Timed numbers flags = ap (λ xs. Timed (record { items = xs }) t.flags) (h.0 ∙ items) ∙ ap (Timed numbers) h.1 in
    ap (λ f. record { word = Timing; fields = f }) same ∙ same_parts l Timing (Timed numbers flags) word fields

pub none_of_all : (l : Line) (d : Descriptor) → ((t : DetailedTiming) → timing_line t ≡ l → ⊥) → ((t : AnyText) → quoted_line Name t.chars.items ≡ l → ⊥)
    → ((t : AnyText) → quoted_line Text t.chars.items ≡ l → ⊥) → ((t : AnyText) → quoted_line SerialText t.chars.items ≡ l → ⊥)
    → ((r : RangeLimits) → bytes_line Range r.bytes ≡ l → ⊥) → (descriptor_line OfDummy ≡ l → ⊥) → ((r : RawDescriptor) → bytes_line Raw r.bytes ≡ l → ⊥)
    → descriptor_line d ≡ l → ⊥
none_of_all l (OfTiming t) a b c d e f g h = a t h
none_of_all l (OfName t) a b c d e f g h = b t h
none_of_all l (OfText t) a b c d e f g h = c t h
none_of_all l (OfSerialText t) a b c d e f g h = d t h
none_of_all l (OfRange r) a b c d e f g h = e r h
none_of_all l OfDummy a b c d e f g h = f h
none_of_all l (OfRaw r) a b c d e f g h = g r h

pub no_standard : (l : Line) (s : Option StandardTiming) → ((xs : List ℕ) → letters_line Standard xs ≡ l → ⊥) → ((ns : List ℕ) → numbers_line Standard ns ≡ l → ⊥) → standard_line s ≡ l → ⊥
no_standard l None h k e = h (codes "unused") e
no_standard l (Some s) h k e = k _ e

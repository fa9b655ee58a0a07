-- 18 bytes spell one descriptor at most.
use Rattle.std.proofs.Common.{◌≡◌, ℕ, zero, suc, ◌+◌, ◌-◌, ◌<◌, Bool, true, false, ◌&&◌, ◌==◌, not, nat_lt, cond, IsTrue, List, [], ◌∷◌, ◌++◌, length, drop, replicate, slice_index, ap, arith, refl, sym, ◌∙◌, one-add}
use Rattle.std.proofs.Math.Bool.{Bool-set}
use Rattle.std.proofs.Math.Nat.{ℕ_set}
use borrow.Author.Tests.{tests}
use Rattle.std.specs.List.{prefix_len, list_all}
use Rattle.arrayvec.specs.ArrayVec.{ArrayVec}
use Rattle.edid_base.proofs.Same.{same}
use Rattle.std.proofs.lemmas.Bool.{and_parts}
use Rattle.edid_base.proofs.OneText.{one_text}
use Rattle.edid_base.proofs.OneTiming.{one_timing}
use Rattle.edid_base.specs.Bytes.{are_bytes}
use Rattle.edid_base.specs.Chars.{is_char, is_text, is_padding, is_text_form, padding, text_bytes}
use Rattle.edid_base.specs.Forms.{is_timing, is_labelled, fits_no_form}
use Rattle.edid_base.specs.Timing.{low, high}
use Rattle.edid_base.specs.Descriptor.{descriptor_bytes}
use Rattle.edid_base.specs.declared.text.Text.{Text}
use Rattle.edid_base.specs.declared.descriptor.RawDescriptor.{RawDescriptor}
use Rattle.edid_base.specs.declared.descriptor.RangeLimits.{RangeLimits}
use Rattle.edid_base.specs.declared.descriptor.Descriptor.{Descriptor}
use Rattle.edid_base.specs.declared.descriptor.Descriptor.TheVariants.{Timing as OfTiming, Name, Text as OfText, SerialText, Range, Dummy, Raw}

spaces : (n : ℕ) → list_all (λ b. b == 0x20) (replicate n 0x20) ≡ true
spaces zero = refl
spaces (suc n) = spaces n

padded : (n : ℕ) → is_padding (padding n) ≡ true
padded zero = refl
padded (suc n) =
    let some : (length (padding (suc n)) == 0) ≡ false = grind (arith, tests) in rw some (spaces n)

rest_again : (xs : List ℕ) (n : ℕ) → list_all is_char xs ≡ true → drop (prefix_len is_char (xs ++ padding n)) (xs ++ padding n) ≡ padding n
rest_again [] zero h = refl
rest_again [] (suc n) h = refl
rest_again (x ∷ xs) n h =
    let parts = and_parts (is_char x) (list_all is_char xs) h in
    rw (parts.0, one-add) (rest_again xs n parts.1)

chars_of : (t : Text) → list_all is_char t.chars.items ≡ true
chars_of t = (and_parts _ (list_all is_char t.chars.items) t.printable).1

text_form : (t : Text) → is_text_form (text_bytes t.chars.items) ≡ true
text_form t = rw (rest_again t.chars.items (13 - length t.chars.items) (chars_of t)) (padded (13 - length t.chars.items))

abbrev kind_at : List ℕ → ℕ
kind_at bytes = cond (is_timing bytes) 0 (cond (is_labelled bytes) (slice_index bytes 3) 1)

abbrev kind : Descriptor → ℕ
kind (OfTiming _) = 0
kind (Name _) = 252
kind (OfText _) = 254
kind (SerialText _) = 255
kind (Range _) = 253
kind Dummy = 16
kind (Raw _) = 1

none : (t l : Bool) (n : ℕ) → (not t && not l) ≡ true → cond t 0 (cond l n 1) ≡ 1
none true l n h = cc
none false true n h = cc
none false false n h = refl

raw_kind : (bytes : List ℕ) → fits_no_form bytes ≡ true → kind_at bytes ≡ 1
raw_kind bytes h = none (is_timing bytes) (is_labelled bytes) (slice_index bytes 3) h

kind_of : (d : Descriptor) → kind_at (descriptor_bytes d) ≡ kind d
kind_of (OfTiming t) =
    let runs = t.runs in
    let some : 0 < low t.clock + high t.clock = omega arith in
    let test : nat_lt 0 (low t.clock + high t.clock) ≡ true = grind (arith, tests) in rw test
kind_of (Name t) = rw (text_form t)
kind_of (OfText t) = rw (text_form t)
kind_of (SerialText t) = rw (text_form t)
kind_of (Range r) = refl
kind_of Dummy = refl
kind_of (Raw r) = raw_kind r.bytes r.of_no_form

abbrev made : (v : ArrayVec ℕ) → IsTrue (is_text v.items) → Text
made v h = record { chars = v; printable = h }

same_text : (t u : Text) → text_bytes t.chars.items ≡ text_bytes u.chars.items → t ≡ u
same_text t u e =
    let items = one_text t.chars.items u.chars.items (chars_of t) (chars_of u) e in
    same made (λ v. Bool-set _ true) t.chars u.chars t.printable u.printable (ap (λ xs. record { items = xs }) items)

abbrev made_raw : (bytes : List ℕ) → (length bytes ≡ 18) × IsTrue (are_bytes bytes) × IsTrue (fits_no_form bytes) → RawDescriptor
made_raw bytes h = record { bytes = bytes; whole = h.0; bytes_fit = h.1; of_no_form = h.2 }

same_raw : (r s : RawDescriptor) → r.bytes ≡ s.bytes → r ≡ s
same_raw r s e = same made_raw (λ bytes. hlevel (ℕ_set, Bool-set)) r.bytes s.bytes (r.whole, r.bytes_fit, r.of_no_form) (s.whole, s.bytes_fit, s.of_no_form) e

abbrev made_limits : (bytes : List ℕ) → (length bytes ≡ 14) × IsTrue (are_bytes bytes) → RangeLimits
made_limits bytes h = record { bytes = bytes; whole = h.0; bytes_fit = h.1 }

same_limits : (r s : RangeLimits) → r.bytes ≡ s.bytes → r ≡ s
same_limits r s e = same made_limits (λ bytes. hlevel (ℕ_set, Bool-set)) r.bytes s.bytes (r.whole, r.bytes_fit) (s.whole, s.bytes_fit) e

by_kind : (d e : Descriptor) → kind d ≡ kind e → descriptor_bytes d ≡ descriptor_bytes e → d ≡ e
by_kind (OfTiming t) (OfTiming u) k e = ap OfTiming (one_timing t u e)
by_kind (Name t) (Name u) k e = ap Name (same_text t u (ap (λ xs. drop 5 xs) e))
by_kind (OfText t) (OfText u) k e = ap OfText (same_text t u (ap (λ xs. drop 5 xs) e))
by_kind (SerialText t) (SerialText u) k e = ap SerialText (same_text t u (ap (λ xs. drop 5 xs) e))
by_kind (Range r) (Range s) k e = ap Range (same_limits r s (ap (λ xs. drop 4 xs) e))
by_kind Dummy Dummy k e = refl
by_kind (Raw r) (Raw s) k e = ap Raw (same_raw r s e)
by_kind d e k h = absurd (omega arith)

pub one_descriptor : (d e : Descriptor) → descriptor_bytes d ≡ descriptor_bytes e → d ≡ e
one_descriptor d e h = by_kind d e (sym (kind_of d) ∙ ap kind_at h ∙ kind_of e) h

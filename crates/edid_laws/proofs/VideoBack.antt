-- The byte of a word of a video line.
use Rattle.std.proofs.Common.{◌≡◌, ℕ, ◌+◌, ◌-◌, nat_le, ◌&&◌, ◌||◌, Bool, true, false, cond, List, length, take, Option, Some, None, refl, sym, ◌∙◌, ap, subst, arith}
use Rattle.std.proofs.lemmas.Bool.Decides.{nat_tests}
use Rattle.std.proofs.lemmas.Option.{none-some, same_Some}
use Rattle.text_core.specs.Number.{number_of}
use Rattle.edid_spelling.specs.Video.{code_of as word_code, is_marked, native_of, plain_of}
use Rattle.meaning_words.specs.Videos.{code_of, is_native}
use Rattle.edid_laws.specs.Named.{digits_of}

-- what is read of a byte: whether it is native, and its code
pub record Back (marked : Bool) (number : Option ℕ) (byte : ℕ) : Type 0 where
  pub native : is_native byte ≡ marked
  pub code : number ≡ Some (code_of byte)

marked_code : (n : ℕ) → (nat_le 1 n && nat_le n 64) ≡ true → Back true (Some n) (n + 128)
marked_code n fits =
    let is : is_native (n + 128) ≡ true = grind (arith, nat_tests) in
    let back : n + 128 - 128 ≡ n = omega arith in
    record {
      native = is;
      code = ap Some (sym (ap (λ b. cond b (n + 128 - 128) (n + 128)) is ∙ back));
    }

native_back : (number : Option ℕ) (byte : ℕ) → native_of number ≡ Some byte → Back true number byte
native_back None byte e = absurd (none-some byte e)
native_back (Some n) byte e =
    elim (nat_le 1 n && nat_le n 64) as (λ b. (nat_le 1 n && nat_le n 64) ≡ b → cond b (Some (n + 128)) None ≡ Some byte → Back true (Some n) byte) [
      | true ↦ λ fits is. subst (Back true (Some n)) (same_Some (n + 128) byte is) (marked_code n fits)
      | false ↦ λ fits is. absurd (none-some byte is)
    ] refl e

plain_code : (n : ℕ) → (nat_le n 128 || (nat_le 193 n && nat_le n 255)) ≡ true → Back false (Some n) n
plain_code n fits =
    let is : is_native n ≡ false = grind (arith, nat_tests) in
    record {
      native = is;
      code = ap Some (sym (ap (λ b. cond b (n - 128) n) is));
    }

plain_back : (number : Option ℕ) (byte : ℕ) → plain_of number ≡ Some byte → Back false number byte
plain_back None byte e = absurd (none-some byte e)
plain_back (Some n) byte e =
    elim (nat_le n 128 || (nat_le 193 n && nat_le n 255)) as (λ b. (nat_le n 128 || (nat_le 193 n && nat_le n 255)) ≡ b → cond b (Some n) None ≡ Some byte → Back false (Some n) byte) [
      | true ↦ λ fits is. subst (Back false (Some n)) (same_Some n byte is) (plain_code n fits)
      | false ↦ λ fits is. absurd (none-some byte is)
    ] refl e

pub word_back : (word : List ℕ) (byte : ℕ) → word_code word ≡ Some byte → Back (is_marked word) (number_of (digits_of word)) byte
word_back word byte e =
    elim (is_marked word) as (λ b. cond b (native_of (number_of (take (length word - 1) word))) (plain_of (number_of word)) ≡ Some byte → Back b (number_of (cond b (take (length word - 1) word) word)) byte) [
      | true ↦ λ is. native_back (number_of (take (length word - 1) word)) byte is
      | false ↦ λ is. plain_back (number_of word) byte is
    ] e

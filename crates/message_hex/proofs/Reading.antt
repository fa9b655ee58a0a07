-- The bytes of a text, as far as they were read.
use Rattle.std.proofs.Common.{◌≡◌, ℕ, ◌<◌, length, arith, List, [], ◌∷◌, ◌++◌, Option, Some, None, Result, Ok, Err, refl, sym, ap, ◌∙◌, append_assoc}
use Rattle.message_hex.specs.Bytes.{after_arrow_of, bytes_from, step, with_byte, with_step}
use Rattle.message_hex.specs.Kept.{AreBytes, AreKept}
use Rattle.message_hex.specs.declared.bytes.LineBytes.{LineBytes}
use Rattle.message_hex.specs.declared.bytes.DisCause.{DisCause}
use Rattle.message_hex.specs.declared.bytes.HexState.{HexState}
use Rattle.message_hex.specs.declared.bytes.HexState.TheVariants.{Between}

-- bytes after those that were read
abbrev pub after : List ℕ → Result (List ℕ) DisCause → Result (List ℕ) DisCause
after done (Ok bytes) = Ok (done ++ bytes)
after done (Err cause) = Err cause

after_none : (r : Result (List ℕ) DisCause) → r ≡ after [] r
after_none (Ok bytes) = refl
after_none (Err cause) = refl

after_byte : (done : List ℕ) (byte : ℕ) (r : Result (List ℕ) DisCause) → after done (with_byte (Some byte) r) ≡ after (done ++ byte ∷ []) r
after_byte done byte (Ok bytes) = ap (λ bs. Ok bs) (sym (append_assoc done (byte ∷ []) bytes))
after_byte done byte (Err cause) = refl

pub record Read (text rest : List ℕ) (place : HexState) (bytes : LineBytes) : Type 0 where
  pub done : List ℕ
  pub reads : bytes_from Between text ≡ after done (bytes_from place rest)
  pub kept : AreBytes bytes done

pub read_none : (text : List ℕ) (bytes : LineBytes) → AreBytes bytes [] → Read text text Between bytes
read_none text bytes kept = record { done = []; reads = after_none (bytes_from Between text); kept = kept }

read_on : (text more : List ℕ) (next : HexState) (byte : Option ℕ) (bytes new : LineBytes) (done : List ℕ)
    → bytes_from Between text ≡ after done (with_byte byte (bytes_from next more)) → AreKept byte done new → Read text more next new
read_on text more next None bytes new done reads kept = record { done = done; reads = reads; kept = kept }
read_on text more next (Some byte) bytes new done reads kept =
    record { done = done ++ byte ∷ []; reads = reads ∙ after_byte done byte (bytes_from next more); kept = kept }

pub read_more : (text rest more : List ℕ) (place next : HexState) (c : ℕ) (byte : Option ℕ) (bytes new : LineBytes) → Read text rest place bytes
    → rest ≡ c ∷ more → step place c ≡ Ok (next, byte) → ((all : List ℕ) → AreBytes bytes all → AreKept byte all new) → Read text more next new
read_more text rest more place next c byte bytes new read is stepped keeps =
    let same : bytes_from place rest ≡ with_byte byte (bytes_from next more) =
    ap (bytes_from place) is ∙ ap (λ s. with_step s (λ p. bytes_from p more)) stepped in
    read_on text more next byte bytes new read.done (read.reads ∙ ap (after read.done) same) (keeps read.done read.kept)

-- a character that is out of place
pub read_fault : (text rest more : List ℕ) (place : HexState) (c : ℕ) (cause : DisCause) (bytes : LineBytes) → Read text rest place bytes
    → rest ≡ c ∷ more → step place c ≡ Err cause → bytes_from Between text ≡ Err cause
read_fault text rest more place c cause bytes read is stepped =
    read.reads ∙ ap (after read.done) (ap (bytes_from place) is ∙ ap (λ s. with_step s (λ p. bytes_from p more)) stepped)

-- the end of a text
pub read_end : (text rest : List ℕ) (place : HexState) (bytes : LineBytes) → Read text rest place bytes → rest ≡ []
    → (done : List ℕ) × (bytes_from Between text ≡ after done (bytes_from place [])) × AreBytes bytes done
read_end text rest place bytes read none = (read.done, read.reads ∙ ap (λ r. after read.done (bytes_from place r)) none, read.kept)

-- fewer than two characters have no arrow
pub no_pair : (best rest : List ℕ) → length rest < 2 → after_arrow_of best rest ≡ best
no_pair best [] short = refl
no_pair best (a ∷ []) short = refl
no_pair best (a ∷ b ∷ rest) short = absurd (omega arith)

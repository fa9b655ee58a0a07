-- Where no line could be read: a read failed, or too much came.
use Rattle.std.proofs.Common.{◌≡◌, ◌≢◌, ℕ, suc, ◌+◌, ◌<◌, ◌==◌, inl, inr, false, cond, if◌then◌else◌, List, [], ◌∷◌, ◌++◌, length, length-append, Option, Some, None, Result, Ok, Err, refl, sym, ap, subst, ◌∙◌, append_assoc, arith}
use Rattle.std.specs.List.{slice_split, onto_first}
use Rattle.std.specs.Io.KnownBytes.{Consumes}
use Rattle.std.proofs.KnownBytes.{Appends-nil}
use Rattle.std.proofs.lemmas.Bool.Decides.{nat_tests}
use Rattle.std.proofs.lemmas.List.Elements.{All-head, All-tail}
use Rattle.std.proofs.lemmas.List.Splits.{length-slice_split}
use Rattle.text_core.specs.Lines.{lines_of, without_empty_end}
use Rattle.follow_core.specs.declared.reception.Reception.{Reception}
use Rattle.live_incoming.specs.Incoming.{IsNext, IsWhole, longest_line}
use Rattle.live_incoming.specs.declared.incoming.IncomingFault.{IncomingFault}
use Rattle.live_incoming.specs.declared.incoming.IncomingFault.TheVariants as line_fault
use Rattle.follow_core.specs.Follow.{Come, Follows, HoldsNothing, HaveCome, IsHandedOn, IsOfWriting, LongLinesAreTooMuch, line_error}
use Rattle.follow_core.specs.declared.error.FollowError.{FollowError}
use Rattle.follow_core.specs.declared.error.FollowError.TheVariants.{Capture, Read, TooLong, Write}
use Rattle.follow_core.specs.declared.follower.Follower.{Follower}
use Rattle.follow_core.specs.declared.lines.LineForm.{LineForm}
use Rattle.follow_core.specs.declared.view.ReadingView.{ReadingView}
use Rattle.follow_core.proofs.Written.{Going, came_first, up_to_date}

-- ---- a line of which so much has come

-- the part before the first end begins so
record Begun (front : List ℕ) (parts : List (List ℕ)) : Type 0 where
  more : List ℕ
  rest : List (List ℕ)
  is : parts ≡ (front ++ more) ∷ rest

some_part : (parts : List (List ℕ)) → 0 < length parts → Begun [] parts
some_part [] h = absurd (omega arith)
some_part (part ∷ parts) h = record { more = part; rest = parts; is = refl }

no_end : (byte : ℕ) → byte ≢ 10 → (byte == 10) ≡ false
no_end byte other = grind (arith, nat_tests)

split_begun : (front text : List ℕ) → IsWhole front → Begun front (slice_split (λ b. b == 10) (front ++ text))
split_begun [] text whole = some_part (slice_split (λ b. b == 10) text) (omega (arith, length-slice_split (λ b. b == 10) text))
split_begun (x ∷ xs) text whole =
    let b = split_begun xs text (All-tail (λ byte. byte ≢ 10) x xs whole) in
    record {
      more = b.more;
      rest = b.rest;
      is = ap (λ t. cond t ([] ∷ slice_split (λ b. b == 10) (xs ++ text)) (onto_first x (slice_split (λ b. b == 10) (xs ++ text)))) (no_end x (All-head (λ byte. byte ≢ 10) x xs whole))
          ∙ ap (onto_first x) b.is;
    }

kept_first : (part : List ℕ) (parts : List (List ℕ)) → 0 < length part → (rest : List (List ℕ)) × (without_empty_end (part ∷ parts) ≡ part ∷ rest)
kept_first [] parts h = absurd (omega arith)
kept_first (x ∷ xs) [] h =
    let some : (suc (length xs) == 0) ≡ false = grind (arith, nat_tests) in
    ([], ap (λ b. if b then [] else (x ∷ xs) ∷ []) some)
kept_first (x ∷ xs) (next ∷ parts) h = (without_empty_end (next ∷ parts), refl)

long_line : (known now next : Option (List ℕ)) (past : List (List ℕ)) (front : List ℕ) → Come known now past → IsWhole front → longest_line < length front → Consumes now next front
    → (line : List ℕ) × (longest_line < length line) × HaveCome known past (Some line)
long_line None now next past front come whole long takes = (front, long, tt)
long_line (Some xs) None next past front come whole long takes = absurd come
long_line (Some xs) (Some ys) None past front come whole long takes = absurd takes
long_line (Some xs) (Some ys) (Some zs) past front come whole long takes =
    let b = split_begun front zs whole in
    let line : List ℕ = front ++ b.more in
    let size : length line ≡ length front + length b.more = length-append front b.more in
    let k = kept_first line b.rest (omega (arith, size, long)) in (
      line,
      omega (arith, size, long),
      (k.0, come ∙ ap (λ t. past ++ lines_of t) takes ∙ ap (λ parts. past ++ without_empty_end parts) b.is ∙ ap (λ ls. past ++ ls) k.1 ∙ sym (append_assoc past (line ∷ []) k.0)),
    )

pub long_lines_are_too_much : LongLinesAreTooMuch
long_lines_are_too_much known now next past line come h = inl (long_line known now next past h.0 come h.1 h.2 h.3)

-- ---- no line was read

pub line_fails : (form : LineForm) (signal : List ℕ) (view : ReadingView) (how : Reception) (known now next before after : Option (List ℕ)) (f : Follower) (number : ℕ) (line : List ℕ) (fault : IncomingFault) → Going form signal view how known now before after f number
    → IsNext now next line (Err fault) → Follows form signal view how known before after (Err (line_error fault))
line_fails form signal view how known now next before after f number line line_fault.Read g h = record {
  past = g.past;
  came = came_first known now g.past g.come;
  written = up_to_date form signal view how known now before after after f number g (Appends-nil after);
}
line_fails form signal view how known now next before after f number line line_fault.TooLong g h = record {
  past = g.past;
  over = long_lines_are_too_much known now next g.past line g.come h;
  written = up_to_date form signal view how known now before after after f number g (Appends-nil after);
}

-- as many lines as are counted
pub lines_run_out : (form : LineForm) (signal : List ℕ) (view : ReadingView) (how : Reception) (known now before after : Option (List ℕ)) (f : Follower) (number : ℕ) → Going form signal view how known now before after f number → number ≡ 18446744073709551615 + 1
    → Follows form signal view how known before after (Err TooLong)
lines_run_out form signal view how known now before after f number g last = record {
  past = g.past;
  over = inr (let count = g.count in omega (arith, count, last), came_first known now g.past g.come);
  written = up_to_date form signal view how known now before after after f number g (Appends-nil after);
}

-- ---- nothing is held back

pub line_handed : (fault : IncomingFault) (error : FollowError) (pending : List ℕ) → error ≡ line_error fault → pending ≡ [] → IsHandedOn error pending
line_handed line_fault.Read error pending is none = subst (λ (e : FollowError). IsHandedOn e pending) (sym is) none
line_handed line_fault.TooLong error pending is none = subst (λ (e : FollowError). IsHandedOn e pending) (sym is) none

pub writing_handed : (result : Result (Unit {0}) FollowError) (old new : List ℕ) → IsOfWriting result → HoldsNothing result old new
writing_handed (Ok done) old new writes = tt
writing_handed (Err (Write count)) old new writes = λ none. tt
writing_handed (Err (Capture fault)) old new writes = absurd writes
writing_handed (Err Read) old new writes = absurd writes
writing_handed (Err TooLong) old new writes = absurd writes

pub handed_after : (result : Result (Unit {0}) FollowError) (old mid new : List ℕ) → (old ≡ [] → mid ≡ []) → HoldsNothing result mid new → HoldsNothing result old new
handed_after (Ok done) old mid new before h = tt
handed_after (Err error) old mid new before h = λ none. h (before none)

-- Parts of a text, added one after another.
use Rattle.std.proofs.Common.{◌≡◌, refl, ◌∙◌, ℕ, ◌+◌, ◌<◌, Bool, true, false, List, [], ◌++◌, length, take, get_or, Option, None, Some, Ok, Err, subst, subst₂, sym, ap, Result, arith, append-nil, append_assoc, length-append, length-drop, length-take, take-append-drop, drop, take_at, min}
use Rattle.std.specs.Borrow.{GName}
use Rattle.std.specs.Io.KnownBytes.{Appends}
use Rattle.std.specs.List.{flat_map}
use Rattle.std.proofs.KnownBytes.{Appends-trans}
use Rattle.text_core.proofs.Cutting.{more_parts}
use Rattle.text_core.specs.Cut.{WrittenText, reported_count}
use Rattle.text_core.specs.declared.sink.WriteFault.{WriteFault}
use Rattle.text_core.specs.Adds.{Adds, AddsBy, Tally, Took, TookAll, TookFront, begun}

-- ---- what was taken

no_bytes : (known : Option (List ℕ)) → Appends known known []
no_bytes None = tt
no_bytes (Some xs) = sym (append-nil xs)

same_count : (n : ℕ) → reported_count n ≡ reported_count (n + 0)
same_count n = omega arith

took_none : (a : Tally) → Took a a []
took_none a = record { below = no_bytes a.known; counts = same_count a.count; loan = refl }

took_both : (a b c : Tally) (xs ys : List ℕ) → Took a b xs → Took b c ys → Took a c (xs ++ ys)
took_both a b c xs ys p q = record {
  below = Appends-trans a.known b.known c.known xs ys p.below q.below;
  counts = omega (arith, p.counts, q.counts, length-append xs ys);
  loan = q.loan ∙ p.loan;
}

-- the front of a text is the front of what goes on
pub front_first : (a b : Tally) (xs ys : List ℕ) → TookFront a b xs → TookFront a b (xs ++ ys)
front_first a b xs ys p = record {
  front = p.front;
  rest = p.rest ++ ys;
  parts = ap (λ t. t ++ ys) p.parts ∙ append_assoc p.front p.rest ys;
  short = omega (arith, p.short, length-append p.rest ys);
  took = p.took;
  stuck = p.stuck;
}

-- a text, and then the front of the next one
front_then : (a b c : Tally) (xs ys : List ℕ) → TookAll a b xs → TookFront b c ys → TookFront a c (xs ++ ys)
front_then a b c xs ys p q = record {
  front = xs ++ q.front;
  rest = q.rest;
  parts = ap (λ t. xs ++ t) q.parts ∙ sym (append_assoc xs q.front q.rest);
  short = q.short;
  took = took_both a b c xs q.front p.took q.took;
  stuck = q.stuck;
}

-- ---- one text after another

clash : false ≡ true → ⊥
clash k = cc

both_by : (p q r : Bool) (a b c : Tally) (xs ys : List ℕ) → a.failed ≡ p → b.failed ≡ q → c.failed ≡ r
    → AddsBy p q a b xs → AddsBy q r b c ys → AddsBy p r a c (xs ++ ys)
both_by true true r a b c xs ys e f g first second = second ∙ first
both_by true false r a b c xs ys e f g first second = absurd (clash (sym f ∙ ap (λ (t : Tally). t.failed) first ∙ e))
both_by false true true a b c xs ys e f g first second = subst (λ t. TookFront a t (xs ++ ys)) (sym second) (front_first a b xs ys first)
both_by false true false a b c xs ys e f g first second = absurd (clash (sym g ∙ ap (λ (t : Tally). t.failed) second ∙ f))
both_by false false false a b c xs ys e f g first second =
    record { took = took_both a b c xs ys first.took second.took; stuck = second.stuck ∙ first.stuck }
both_by false false true a b c xs ys e f g first second = front_then a b c xs ys first second

pub then : (a b c : Tally) (xs ys : List ℕ) → Adds a b xs → Adds b c ys → Adds a c (xs ++ ys)
then a b c xs ys first second = both_by a.failed b.failed c.failed a b c xs ys refl refl refl first second

-- nothing
nothing_by : (p : Bool) (a : Tally) → AddsBy p p a a []
nothing_by true a = refl
nothing_by false a = record { took = took_none a; stuck = refl }

pub nothing : (a : Tally) → Adds a a []
nothing a = nothing_by a.failed a

-- a text, of which no more is written after a fault
first_by : (p q : Bool) (a b : Tally) (xs ys : List ℕ) → q ≡ true → AddsBy p q a b xs → AddsBy p q a b (xs ++ ys)
first_by true q a b xs ys e adds = adds
first_by false true a b xs ys e adds = front_first a b xs ys adds
first_by false false a b xs ys e adds = absurd (clash e)

pub cut_short : (a b : Tally) (xs ys : List ℕ) → b.failed ≡ true → Adds a b xs → Adds a b (xs ++ ys)
cut_short a b xs ys e adds = first_by a.failed b.failed a b xs ys e adds

pub after_failure : (a b : Tally) (xs : List ℕ) → a.failed ≡ true → Adds a b xs → b ≡ a
after_failure a b xs e adds = stays a.failed b.failed e adds
  where
    stays : (p q : Bool) → p ≡ true → AddsBy p q a b xs → b ≡ a
    stays true q e adds = adds
    stays false q e adds = absurd (clash e)

-- what has not failed has not failed before
pub not_yet : (a b : Tally) (xs : List ℕ) → b.failed ≡ false → Adds a b xs → a.failed ≡ false
not_yet a b xs e adds = earlier a.failed refl adds
  where
    earlier : (p : Bool) → a.failed ≡ p → AddsBy p b.failed a b xs → a.failed ≡ false
    earlier false f adds = f
    earlier true f adds = absurd (clash (sym e ∙ ap (λ (t : Tally). t.failed) adds ∙ f))

-- whose loan it is stays
pub same_loan : (a b : Tally) (xs : List ℕ) → Adds a b xs → b.loan ≡ a.loan
same_loan a b xs adds = loan_by a.failed b.failed adds
  where
    loan_by : (p q : Bool) → AddsBy p q a b xs → b.loan ≡ a.loan
    loan_by true q adds = ap (λ (t : Tally). t.loan) adds
    loan_by false false adds = adds.took.loan
    loan_by false true adds = adds.took.loan

-- ---- parts in a loop

pub more : {X : Type 0} (f : X → List ℕ) (ps : List X) (i : ℕ) (x : X) (a b c : Tally) → i < length ps → get_or ps i x ≡ x
    → Adds a b (flat_map f (take i ps)) → Adds b c (f x) → Adds a c (flat_map f (take (i + 1) ps))
more f ps i x a b c h item before part =
    subst (λ t. Adds a c t) (sym (more_parts f ps i x h item)) (then a b c (flat_map f (take i ps)) (f x) before part)

-- ---- the whole text, from its first part on

-- it was written whole
whole_by : (p : Bool) (known : Option (List ℕ)) (was : Bool) (loan : GName) (b : Tally) (text : List ℕ) (n : ℕ) → p ≡ false → n ≡ reported_count (0 + b.count)
    → AddsBy false p (begun known was loan) b text → WrittenText known b.known was b.stuck text (Ok n)
whole_by true known was loan b text n e count adds = absurd (clash (sym e))
whole_by false known was loan b text n e count adds = (omega (arith, count, adds.took.counts), adds.took.below, adds.stuck)

pub written_whole : (known : Option (List ℕ)) (was : Bool) (loan : GName) (b : Tally) (text : List ℕ) (n : ℕ) → b.failed ≡ false → n ≡ reported_count (0 + b.count)
    → Adds (begun known was loan) b text → WrittenText known b.known was b.stuck text (Ok n)
written_whole known was loan b text n e count adds = whole_by b.failed known was loan b text n e count adds

-- or it was cut off
front_is : (text front rest : List ℕ) → text ≡ front ++ rest → take (length front) text ≡ front
front_is text front rest e = ap (take (length front)) e ∙ take_at front rest (length front) refl

front_short : (text front rest : List ℕ) → text ≡ front ++ rest → 0 < length rest → length front < length text
front_short text front rest e short =
    let all : length text ≡ length (front ++ rest) = ap length e in
    omega (arith, all, length-append front rest)

cut_by : (p : Bool) (known : Option (List ℕ)) (was : Bool) (loan : GName) (b : Tally) (text : List ℕ) (fault : WriteFault) → p ≡ true → fault.count ≡ reported_count (0 + b.count)
    → AddsBy false p (begun known was loan) b text → WrittenText known b.known was b.stuck text (Err fault)
cut_by false known was loan b text fault e count adds = absurd (clash e)
cut_by true known was loan b text fault e count adds = (
  (
    length adds.front,
    front_short text adds.front adds.rest adds.parts adds.short,
    omega (arith, count, adds.took.counts),
    subst (λ (t : List ℕ). Appends known b.known t) (sym (front_is text adds.front adds.rest adds.parts)) adds.took.below,
  ),
  adds.stuck,
)

pub written_front : (known : Option (List ℕ)) (was : Bool) (loan : GName) (b : Tally) (text : List ℕ) (fault : WriteFault) → b.failed ≡ true → fault.count ≡ reported_count (0 + b.count)
    → Adds (begun known was loan) b text → WrittenText known b.known was b.stuck text (Err fault)
written_front known was loan b text fault e count adds = cut_by b.failed known was loan b text fault e count adds

-- ---- one put: what was returned of it, taken into the count

-- nothing is taken after a fault
pub adds_none : (a : Tally) (text : List ℕ) → a.failed ≡ true → Adds a a text
adds_none a text e = none_by a.failed a text e
  where
    none_by : (p : Bool) (a : Tally) (text : List ℕ) → p ≡ true → AddsBy p p a a text
    none_by true a text e = refl
    none_by false a text e = absurd (clash e)

-- the text was taken
pub adds_all : (a b : Tally) (text : List ℕ) → a.failed ≡ false → b.failed ≡ false → Appends a.known b.known text
    → reported_count b.count ≡ reported_count (a.count + length text) → b.loan ≡ a.loan → b.stuck ≡ a.stuck → Adds a b text
adds_all a b text e f below counts loan stuck = all_by a.failed b.failed a b text e f (record { took = record { below = below; counts = counts; loan = loan }; stuck = stuck })
  where
    all_by : (p q : Bool) (a b : Tally) (text : List ℕ) → p ≡ false → q ≡ false → TookAll a b text → AddsBy p q a b text
    all_by true q a b text e f took = absurd (clash (sym e))
    all_by false true a b text e f took = absurd (clash (sym f))
    all_by false false a b text e f took = took

-- or its front
cut_front : (text : List ℕ) (n : ℕ) → n < length text → 0 < length (drop n text)
cut_front text n h = omega (arith, length-drop n text)

pub adds_front : (a b : Tally) (text : List ℕ) (n : ℕ) → a.failed ≡ false → b.failed ≡ true → n < length text → Appends a.known b.known (take n text)
    → reported_count b.count ≡ reported_count (a.count + n) → b.loan ≡ a.loan → b.stuck ≡ true → Adds a b text
adds_front a b text n e f h below counts loan stuck =
    let len : length (take n text) ≡ n = length_front text n h in
    front_by a.failed b.failed a b text e f (record {
      front = take n text;
      rest = drop n text;
      parts = sym (take-append-drop n text);
      short = cut_front text n h;
      took = record { below = below; counts = counts ∙ ap (λ (k : ℕ). reported_count (a.count + k)) (sym len); loan = loan };
      stuck = stuck;
    })
  where
    length_front : (text : List ℕ) (n : ℕ) → n < length text → length (take n text) ≡ n
    length_front text n h = omega (arith, length-take n text)

    front_by : (p q : Bool) (a b : Tally) (text : List ℕ) → p ≡ false → q ≡ true → TookFront a b text → AddsBy p q a b text
    front_by true q a b text e f took = absurd (clash (sym e))
    front_by false false a b text e f took = absurd (clash f)
    front_by false true a b text e f took = took

-- the count that stays at its greatest value
pub count_after : (m n k l : ℕ) → m ≡ min (n + k) 340282366920938463463374607431768211455 → n ≡ l → reported_count m ≡ reported_count (l + k)
count_after m n k l e f = omega (arith, e, f)

-- ---- the end of the loan: what a public call says of its own sink, where `below` is the sink as it came back

-- the sink that was lent holds what came back, since the loan is the same
pub loan_ended : {V : Type 0} (contents : V → Option (List ℕ)) (is_stuck : V → Bool) (old new below : V) (loan back : GName) (a b : Tally) (text : List ℕ) (P : Option (List ℕ) → Bool → Type 0)
    → a ≡ begun (contents old) (is_stuck old) loan → Adds a b text → (Adds (begun (contents old) (is_stuck old) loan) b text → P b.known b.stuck)
    → back ≡ b.loan → contents below ≡ b.known → is_stuck below ≡ b.stuck → (back ≡ loan → new ≡ below) → P (contents new) (is_stuck new)
loan_ended contents is_stuck old new below loan back a b text P first adds holds name known stuck ended =
    let start = begun (contents old) (is_stuck old) loan in
    let added : Adds start b text = subst (λ (t : Tally). Adds t b text) first adds in
    let same : new ≡ below = ended (name ∙ same_loan start b text added) in
    subst₂ P (sym (ap contents same ∙ known)) (sym (ap is_stuck same ∙ stuck)) (holds added)

-- a text by itself
pub text_ended : {V : Type 0} (contents : V → Option (List ℕ)) (is_stuck : V → Bool) (old new below : V) (loan back : GName) (a b : Tally) (text : List ℕ) (result : Result ℕ WriteFault)
    → a ≡ begun (contents old) (is_stuck old) loan → Adds a b text
    → ((known : Option (List ℕ)) (was : Bool) (name : GName) (t : List ℕ) → Adds (begun known was name) b t → WrittenText known b.known was b.stuck t result)
    → back ≡ b.loan → contents below ≡ b.known → is_stuck below ≡ b.stuck → (back ≡ loan → new ≡ below)
    → WrittenText (contents old) (contents new) (is_stuck old) (is_stuck new) text result
text_ended contents is_stuck old new below loan back a b text result first adds written name known stuck ended =
    loan_ended contents is_stuck old new below loan back a b text (λ k s. WrittenText (contents old) k (is_stuck old) s text result)
    first adds (written (contents old) (is_stuck old) loan text) name known stuck ended

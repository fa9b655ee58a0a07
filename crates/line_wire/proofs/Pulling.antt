-- What senders pull together, and where they stand in a list.
use Rattle.std.proofs.Common.{◌≡◌, ℕ, zero, suc, ◌+◌, ◌<◌, ◌≤◌, Bool, true, false, ◌&&◌, ◌||◌, nat_lt, List, [], ◌∷◌, length, take, slice_set, slice_index_or, Option, None, refl, arith, ap, ap₂, ◌∙◌, sym}
use Rattle.std.specs.List.{list_any}
use Rattle.std.proofs.lemmas.Bool.Decides.{nat_tests}
use Rattle.line_wave.specs.Line.{line_of}
use Rattle.line_wave.specs.Sender.{sender_stretches}
use Rattle.line_frames.specs.Bits.{frame_bits}
use Rattle.line_reading.specs.declared.sender.Sender.{Sender}
use Rattle.line_reading.specs.declared.sender.SenderState.{SenderState}
use Rattle.line_reading.specs.declared.sender.SenderState.TheVariants.{Sending, Out, Stopped}
use Rattle.line_reading.specs.Sending.{StopsAt, may_pull, pull_of}
use Rattle.line_wire.specs.Pulls.{pull_in}

or_false : (b : Bool) → (b || false) ≡ b
or_false true = refl
or_false false = refl

or_again : (a b c : Bool) → (a || (b || c)) ≡ ((a || b) || c)
or_again true b c = refl
or_again false b c = refl

pub or_swap : (a b : Bool) → (a || b) ≡ (b || a)
or_swap true true = refl
or_swap true false = refl
or_swap false true = refl
or_swap false false = refl

pub not_before : (u t : ℕ) → t ≤ u → nat_lt u t ≡ false
not_before u t l = grind (arith, nat_tests)

-- one more of them
pub any_more : (f : Option Sender → Bool) (xs : List (Option Sender)) (i : ℕ) (d : Option Sender) → i < length xs → list_any f (take (i + 1) xs) ≡ (list_any f (take i xs) || f (slice_index_or xs i d))
any_more f [] i d l = absurd (omega (arith, l))
any_more f (x ∷ xs) zero d l = or_false (f x)
any_more f (x ∷ xs) (suc i) d l =
    ap (λ m. list_any f (take m (x ∷ xs))) (let y : suc i + 1 ≡ suc (i + 1) = omega arith in y) ∙ ap (λ b. f x || b) (any_more f xs i d (omega (arith, l))) ∙ or_again (f x) (list_any f (take i xs)) (f (slice_index_or xs i d))

-- none up to a place
pub none_before : (f : Option Sender → Bool) (xs : List (Option Sender)) (n : ℕ) → f None ≡ false → ((k : ℕ) → k < n → slice_index_or xs k None ≡ None) → list_any f (take n xs) ≡ false
none_before f [] zero e h = refl
none_before f [] (suc n) e h = refl
none_before f (x ∷ xs) zero e h = refl
none_before f (x ∷ xs) (suc n) e h =
    ap (λ (o : Option Sender). f o || list_any f (take n xs)) (h 0 (omega arith)) ∙ ap (λ b. b || list_any f (take n xs)) e ∙ none_before f xs n e (λ k l. h (suc k) (omega (arith, l)))

none_at_all : (f : Option Sender → Bool) (xs : List (Option Sender)) → f None ≡ false → ((k : ℕ) → slice_index_or xs k None ≡ None) → list_any f xs ≡ false
none_at_all f [] e h = refl
none_at_all f (x ∷ xs) e h = ap (λ (o : Option Sender). f o || list_any f xs) (h 0) ∙ ap (λ b. b || list_any f xs) e ∙ none_at_all f xs e (λ k. h (suc k))

-- none from a place on
pub none_after : (f : Option Sender → Bool) (xs : List (Option Sender)) (n : ℕ) → f None ≡ false → ((k : ℕ) → n ≤ k → slice_index_or xs k None ≡ None) → list_any f (take n xs) ≡ list_any f xs
none_after f [] zero e h = refl
none_after f [] (suc n) e h = refl
none_after f (x ∷ xs) zero e h = sym (none_at_all f (x ∷ xs) e (λ k. h k (omega arith)))
none_after f (x ∷ xs) (suc n) e h = ap (λ b. f x || b) (none_after f xs n e (λ k l. h (suc k) (omega (arith, l))))

-- with one more of them that is low to another instant
pub low_more : (xs : List (Option Sender)) (t i : ℕ) (o : Option Sender) (until rise sooner later : ℕ) → i < length xs → sooner ≤ until
    → ((u : ℕ) → t ≤ u → u < until → list_any (pull_in u) (take i xs) ≡ nat_lt u rise)
    → ((u : ℕ) → t ≤ u → u < sooner → nat_lt u later ≡ (nat_lt u rise || pull_in u (slice_index_or xs i o)))
    → (u : ℕ) → t ≤ u → u < sooner → list_any (pull_in u) (take (i + 1) xs) ≡ nat_lt u later
low_more xs t i o until rise sooner later l s low more u a b =
    any_more (pull_in u) xs i o l ∙ ap (λ x. x || pull_in u (slice_index_or xs i o)) (low u a (omega (arith, b, s))) ∙ sym (more u a b)

-- another one in a place, of which the same holds
pub any_set : (f : Option Sender → Bool) (xs : List (Option Sender)) (i : ℕ) (o p : Option Sender) → i < length xs → f p ≡ f (slice_index_or xs i o) → list_any f (slice_set xs i p) ≡ list_any f xs
any_set f [] i o p l e = absurd (omega (arith, l))
any_set f (x ∷ xs) zero o p l e = ap (λ b. b || list_any f xs) e
any_set f (x ∷ xs) (suc i) o p l e = ap (λ b. f x || b) (any_set f xs i o p (omega (arith, l)) e)

-- ---- one that hears

may_same : (old new : SenderState) (before last t u : ℕ) → StopsAt old before t new last → new ≡ old → may_pull new last u ≡ may_pull old before u
may_same Sending Sending before last t u h e = refl
may_same Sending (Out slot) before last t u h e = cc
may_same Sending Stopped before last t u h e = cc
may_same (Out slot) new before last t u h e = ap₂ (λ s l. may_pull s l u) h.0 h.1
may_same Stopped new before last t u h e = ap₂ (λ s l. may_pull s l u) h.0 h.1

-- in the same state it pulls as before
pub pulls_same : (old new : Sender) (t : ℕ) → (new.frame ≡ old.frame) × (new.begin ≡ old.begin) → StopsAt old.state old.last t new.state new.last → new.state ≡ old.state → (u : ℕ) → pull_of new u ≡ pull_of old u
pulls_same old new t k h e u =
    ap₂ (λ f b. line_of (sender_stretches b (frame_bits f)) u && may_pull new.state new.last u) k.0 k.1
    ∙ ap (λ b. line_of (sender_stretches old.begin (frame_bits old.frame)) u && b) (may_same old.state new.state old.last new.last t u h e)

-- What there is to remark of a reading rests on the edges that have come.
use Rattle.std.proofs.Common.{◌≡◌, ℕ, ◌≤◌, ◌<◌, Bool, true, false, not, nat_lt, ◌&&◌, if◌then◌else◌, List, [], ◌∷◌, ◌++◌, take, Option, Some, None, refl, sym, ap, ◌∙◌, append-nil, arith}
use Rattle.std.proofs.lemmas.Bool.Decides.{nat_tests}
use Rattle.line_wave.specs.declared.Edge.{Edge}
use Rattle.line_wave.specs.Bounds.{most_sent}
use Rattle.line_frames.specs.declared.Ending.{Ending}
use Rattle.line_frames.specs.declared.Ending.TheVariants.{Complete, Short, Silent, BadStart, Long, Open}
use Rattle.line_reading.specs.Readings.{Listed}
use Rattle.audit_widths.specs.declared.low.Low.{Low}
use Rattle.audit_widths.specs.Lows.{first_low, gone_to, low_at, lows_in}
use Rattle.audit_widths.specs.Misfits.{low_drive}
use Rattle.audit_core.specs.Audit.{drive_by, drive_of, falls_until, lows_of}
use Rattle.follow_audit.specs.Settled.{IsKnown, has_next, is_drive_known, is_over, is_settled, later}

-- ---- edges that are passed over

pub gone_none : (es : List Edge) → gone_to 0 es ≡ es
gone_none [] = refl
gone_none (e ∷ es) = ap (λ c. if c then gone_to 0 es else e ∷ es) (let x : nat_lt e.at 0 ≡ false = grind (arith, nat_tests) in x)

gone_further : (a b : ℕ) → a < b → (es : List Edge) → gone_to b (gone_to a es) ≡ gone_to b es
gone_further a b l [] = refl
gone_further a b l (e ∷ es) = at (nat_lt e.at a) refl (gone_further a b l es)
  where
    at : (c : Bool) → nat_lt e.at a ≡ c → gone_to b (gone_to a es) ≡ gone_to b es → gone_to b (gone_to a (e ∷ es)) ≡ gone_to b (e ∷ es)
    at true h more =
        let under : nat_lt e.at b ≡ true = grind (arith, nat_tests) in
        rw (h, under) more
    at false h more = rw h refl

gone_no_further : (a b : ℕ) → b ≤ a → (es : List Edge) → gone_to b (gone_to a es) ≡ gone_to a es
gone_no_further a b l [] = refl
gone_no_further a b l (e ∷ es) = at (nat_lt e.at a) refl (gone_no_further a b l es)
  where
    at : (c : Bool) → nat_lt e.at a ≡ c → gone_to b (gone_to a es) ≡ gone_to a es → gone_to b (gone_to a (e ∷ es)) ≡ gone_to a (e ∷ es)
    at true h more = rw h more
    at false h more =
        let over : nat_lt e.at b ≡ false = grind (arith, nat_tests) in
        rw h (ap (λ (c : Bool). if c then gone_to b es else e ∷ es) over)

pub gone_twice : (a b : ℕ) (es : List Edge) → gone_to b (gone_to a es) ≡ gone_to (later a b) es
gone_twice a b es = by (nat_lt a b) refl
  where
    by : (c : Bool) → nat_lt a b ≡ c → gone_to b (gone_to a es) ≡ gone_to (if c then b else a) es
    by true h = gone_further a b (let x : a < b = grind (arith, nat_tests) in x) es
    by false h = gone_no_further a b (let x : b ≤ a = grind (arith, nat_tests) in x) es

-- what is passed over is no longer needed
pub gone_before : (at : ℕ) (window left : List Edge) → gone_to at (gone_to at window ++ left) ≡ gone_to at (window ++ left)
gone_before at [] left = refl
gone_before at (e ∷ es) left = by (nat_lt e.at at) refl (gone_before at es left)
  where
    by : (c : Bool) → nat_lt e.at at ≡ c → gone_to at (gone_to at es ++ left) ≡ gone_to at (es ++ left) → gone_to at (gone_to at (e ∷ es) ++ left) ≡ gone_to at ((e ∷ es) ++ left)
    by true h more = rw h more
    by false h more = rw h (rw h refl)

gone_front : (at until : ℕ) (window left : List Edge) → has_next until (gone_to at window) ≡ true → gone_to at (window ++ left) ≡ gone_to at window ++ left
gone_front at until [] left h = cc
gone_front at until (e ∷ es) left h = by (nat_lt e.at at) refl (λ k. gone_front at until es left k)
  where
    by : (c : Bool) → nat_lt e.at at ≡ c → (has_next until (gone_to at es) ≡ true → gone_to at (es ++ left) ≡ gone_to at es ++ left) → gone_to at ((e ∷ es) ++ left) ≡ gone_to at (e ∷ es) ++ left
    by true k more =
        let next : has_next until (gone_to at es) ≡ true = sym (ap (λ (c : Bool). has_next until (if c then gone_to at es else e ∷ es)) k) ∙ h in
        rw k (more next)
    by false k more = rw k refl

-- ---- low stretches

lows_more : (until : ℕ) (p left : List Edge) → has_next until p ≡ true → lows_in until (p ++ left) ≡ lows_in until p
lows_more until [] left h = cc
lows_more until (f ∷ []) left h = late left
  where
    over : (c : Bool) → nat_lt f.at until ≡ c → not c ≡ true → nat_lt f.at until ≡ false
    over true k n = cc
    over false k n = k

    late : (left : List Edge) → lows_in until (f ∷ left) ≡ lows_in until (f ∷ [])
    late [] = refl
    late (r ∷ es) = let k = over (nat_lt f.at until) refl h in rw k refl
lows_more until (f ∷ r ∷ []) left h = by (nat_lt f.at until) refl
  where
    by : (c : Bool) → nat_lt f.at until ≡ c → lows_in until (f ∷ r ∷ left) ≡ lows_in until (f ∷ r ∷ [])
    by false k = rw k refl
    by true k =
        let n : false ≡ true = sym (ap (λ (c : Bool). if c then has_next until [] else true) k) ∙ h in
        cc
lows_more until (f ∷ r ∷ g ∷ gs) left h = by (nat_lt f.at until) refl (λ n. lows_more until (g ∷ gs) left n)
  where
    by : (c : Bool) → nat_lt f.at until ≡ c → (has_next until (g ∷ gs) ≡ true → lows_in until ((g ∷ gs) ++ left) ≡ lows_in until (g ∷ gs))
        → lows_in until (f ∷ r ∷ g ∷ (gs ++ left)) ≡ lows_in until (f ∷ r ∷ g ∷ gs)
    by false k more = rw k refl
    by true k more =
        let n : has_next until (g ∷ gs) ≡ true = sym (ap (λ (c : Bool). if c then has_next until (g ∷ gs) else true) k) ∙ h in
        rw k (ap (λ (ls : List Low). low_at f.at (r ∷ g ∷ gs) ∷ ls) (more n))

-- ---- low drives

same_rise : (fall : ℕ) (r : Edge) (a b : List Edge) → low_drive Short (low_at fall (r ∷ a)) ≡ low_drive Short (low_at fall (r ∷ b))
same_rise fall r [] [] = refl
same_rise fall r [] (x ∷ b) = refl
same_rise fall r (x ∷ a) [] = refl
same_rise fall r (x ∷ a) (y ∷ b) = refl

over_more : (e : Edge) (es left : List Edge) → is_over (e ∷ es) ≡ true → low_drive Short (low_at e.at (es ++ left)) ≡ low_drive Short (low_at e.at es)
over_more e [] left n = cc
over_more e (r ∷ rs) left n = same_rise e.at r (rs ++ left) rs

drive_over : (at : ℕ) (p left : List Edge) → is_over (gone_to at p) ≡ true → drive_by Short (first_low (gone_to at (p ++ left))) ≡ drive_by Short (first_low (gone_to at p))
drive_over at [] left h = cc
drive_over at (e ∷ es) left h = by (nat_lt e.at at) refl (λ k. drive_over at es left k)
  where
    by : (c : Bool) → nat_lt e.at at ≡ c → (is_over (gone_to at es) ≡ true → drive_by Short (first_low (gone_to at (es ++ left))) ≡ drive_by Short (first_low (gone_to at es)))
        → drive_by Short (first_low (gone_to at ((e ∷ es) ++ left))) ≡ drive_by Short (first_low (gone_to at (e ∷ es)))
    by true k more = rw k (more (sym (ap (λ (c : Bool). is_over (if c then gone_to at es else e ∷ es)) k) ∙ h))
    by false k more = rw k (over_more e es left (sym (ap (λ (c : Bool). is_over (if c then gone_to at es else e ∷ es)) k) ∙ h))

no_drive : (ending : Ending) → ((low : Low) → low_drive ending low ≡ None) → (a b : Option Low) → drive_by ending a ≡ drive_by ending b
no_drive ending none None None = refl
no_drive ending none None (Some low) = sym (none low)
no_drive ending none (Some low) None = none low
no_drive ending none (Some low) (Some other) = none low ∙ sym (none other)

drive_more : (ending : Ending) (at : ℕ) (p left : List Edge) → is_drive_known ending (gone_to at p) ≡ true → drive_by ending (first_low (gone_to at (p ++ left))) ≡ drive_by ending (first_low (gone_to at p))
drive_more Short at p left h = drive_over at p left h
drive_more Complete at p left h = no_drive Complete (λ low. refl) (first_low (gone_to at (p ++ left))) (first_low (gone_to at p))
drive_more Silent at p left h = no_drive Silent (λ low. refl) (first_low (gone_to at (p ++ left))) (first_low (gone_to at p))
drive_more BadStart at p left h = no_drive BadStart (λ low. refl) (first_low (gone_to at (p ++ left))) (first_low (gone_to at p))
drive_more Long at p left h = no_drive Long (λ low. refl) (first_low (gone_to at (p ++ left))) (first_low (gone_to at p))
drive_more Open at p left h = no_drive Open (λ low. refl) (first_low (gone_to at (p ++ left))) (first_low (gone_to at p))

-- ---- a reading

both_true : (a b : Bool) → (a && b) ≡ true → (a ≡ true) × (b ≡ true)
both_true true true h = (refl, refl)
both_true true false h = cc
both_true false b h = cc

pub settled_known : (from : ℕ) (window : List Edge) (x : Listed) → is_settled x (gone_to (later from x.begin) window) ≡ true → (left : List Edge) → IsKnown from window left x
settled_known from window x h left =
    let until = falls_until x.reported.ending x.reported.at in
    let at = later from x.begin in
    let b = both_true (has_next until (gone_to at window)) (is_drive_known x.reported.ending (gone_to x.reported.at (gone_to at window))) h in
    record {
      place = gone_front at until window left b.0;
      lows = ap (take most_sent) (lows_more until (gone_to at window) left b.0);
      drive = drive_more x.reported.ending x.reported.at (gone_to at window) left b.1;
    }

-- where no edge is left
pub all_known : (from : ℕ) (window : List Edge) (x : Listed) → IsKnown from window [] x
all_known from window x =
    let at = later from x.begin in
    record {
      place = ap (gone_to at) (append-nil window) ∙ sym (append-nil (gone_to at window));
      lows = ap (lows_of x) (append-nil (gone_to at window));
      drive = ap (drive_of x) (append-nil (gone_to at window));
    }

-- A receiver and a sender are what they keep, since the facts about their fields are propositions.
use Rattle.std.proofs.Common.{arith, subst, ◌≡◌, Option, Some, None, IsSome, IfSome, ℕ, ◌≤◌, ◌<◌, Bool, List, length, refl, ap, sym, ◌∙◌}
use Rattle.std.specs.Coded.{le_prop}
use Rattle.line_wave.specs.Bounds.{latest_heard}
use Rattle.arrayvec.specs.ArrayVec.{ArrayVec}
use Rattle.line_reading.specs.Parts.{ArePartsOf, ArePartsOfSender, number_of, number_of_state, slot_of_state}
use Rattle.line_reading.specs.declared.receiver.ReceiverState.{ReceiverState}
use Rattle.line_reading.specs.declared.receiver.ReceiverState.TheVariants.{Rest, StartLow, StartHigh, Unsampled, Sampled}
use Rattle.line_reading.specs.declared.receiver.Receiver.{Receiver}
use Rattle.line_reading.specs.declared.receiver.parts.ReceiverParts.{ReceiverParts}
use Rattle.line_reading.specs.declared.sender.Sender.{Sender}
use Rattle.line_reading.specs.declared.sender.SenderState.{SenderState}
use Rattle.line_reading.specs.declared.sender.SenderState.TheVariants.{Sending, Out, Stopped}
use Rattle.line_reading.specs.declared.sender.parts.SenderParts.{SenderParts}

-- two values with the same fields and any proofs of the same facts are one
same : {A B : Type 0} {P : A → Type 0} (mk : (x : A) → P x → B) → ((x : A) → IsProp (P x))
    → (x y : A) (h : P x) (k : P y) → x ≡ y → mk x h ≡ mk y k
same {A} {B} {P} mk prop x y h k e =
    let at : (y : A) → x ≡ y → (k : P y) → mk x h ≡ mk y k =
    λ y e. subst (λ (y : A). (k : P y) → mk x h ≡ mk y k) e (λ k. ap (mk x) (prop x h k)) in
    at y e k

one_place : (p q : ReceiverState) → number_of p ≡ number_of q → p ≡ q
one_place Rest Rest h = refl
one_place Rest StartLow h = absurd (omega arith)
one_place Rest StartHigh h = absurd (omega arith)
one_place Rest Unsampled h = absurd (omega arith)
one_place Rest Sampled h = absurd (omega arith)
one_place StartLow Rest h = absurd (omega arith)
one_place StartLow StartLow h = refl
one_place StartLow StartHigh h = absurd (omega arith)
one_place StartLow Unsampled h = absurd (omega arith)
one_place StartLow Sampled h = absurd (omega arith)
one_place StartHigh Rest h = absurd (omega arith)
one_place StartHigh StartLow h = absurd (omega arith)
one_place StartHigh StartHigh h = refl
one_place StartHigh Unsampled h = absurd (omega arith)
one_place StartHigh Sampled h = absurd (omega arith)
one_place Unsampled Rest h = absurd (omega arith)
one_place Unsampled StartLow h = absurd (omega arith)
one_place Unsampled StartHigh h = absurd (omega arith)
one_place Unsampled Unsampled h = refl
one_place Unsampled Sampled h = absurd (omega arith)
one_place Sampled Rest h = absurd (omega arith)
one_place Sampled StartLow h = absurd (omega arith)
one_place Sampled StartHigh h = absurd (omega arith)
one_place Sampled Unsampled h = absurd (omega arith)
one_place Sampled Sampled h = refl

one_state : (p q : SenderState) → number_of_state p ≡ number_of_state q → slot_of_state p ≡ slot_of_state q → p ≡ q
one_state Sending Sending h k = refl
one_state Sending (Out n) h k = absurd (omega arith)
one_state Sending Stopped h k = absurd (omega arith)
one_state (Out m) Sending h k = absurd (omega arith)
one_state (Out m) (Out n) h k = ap Out k
one_state (Out m) Stopped h k = absurd (omega arith)
one_state Stopped Sending h k = absurd (omega arith)
one_state Stopped (Out n) h k = absurd (omega arith)
one_state Stopped Stopped h k = refl

-- ---- a receiver

abbrev Kept : Type 0
Kept = Bool × Bool × ReceiverState × ℕ × ℕ × ArrayVec Bool

abbrev facts : Kept → Type 0
facts k = (k.3 ≤ latest_heard) × (k.4 ≤ latest_heard) × (length k.5.items < 160)

abbrev made : (k : Kept) → facts k → Receiver
made k h = record { was_low = k.0; is_low = k.1; place = k.2; begin = k.3; fall = k.4; bits = k.5; begun = h.0; fallen = h.1; room = h.2 }

facts_prop : (k : Kept) → IsProp (facts k)
facts_prop k = hlevel le_prop

abbrev kept : Receiver → Kept
kept r = (r.was_low, r.is_low, r.place, r.begin, r.fall, r.bits)

same_bits : (a b : ArrayVec Bool) → a.items ≡ b.items → a ≡ b
same_bits a b e = ap (λ xs. let v : ArrayVec Bool = record { items = xs } in v) e

pub same_receiver : (first second : Receiver) (parts : ReceiverParts) → ArePartsOf first parts → ArePartsOf second parts → first ≡ second
same_receiver first second parts f s =
    let was = sym f.was_low ∙ s.was_low in
    let is = sym f.is_low ∙ s.is_low in
    let place = one_place first.place second.place (sym f.place ∙ s.place) in
    let begin = sym f.begin ∙ s.begin in
    let fall = sym f.fall ∙ s.fall in
    let bits = same_bits first.bits second.bits (sym f.bits ∙ s.bits) in
    let all : kept first ≡ kept second = cc in
    same made facts_prop (kept first) (kept second) (first.begun, first.fallen, first.room) (second.begun, second.fallen, second.room) all

-- ---- a sender

abbrev SenderKept : Type 0
SenderKept = List ℕ × ℕ × SenderState × ℕ

abbrev sender_facts : SenderKept → Type 0
sender_facts k = (k.1 ≤ latest_heard) × (k.3 ≤ latest_heard) × (0 < length k.0)

abbrev sender_made : (k : SenderKept) → sender_facts k → Sender
sender_made k h = record { frame = k.0; begin = k.1; state = k.2; last = k.3; begun = h.0; ended = h.1; filled = h.2 }

sender_prop : (k : SenderKept) → IsProp (sender_facts k)
sender_prop k = hlevel le_prop

abbrev sender_kept : Sender → SenderKept
sender_kept r = (r.frame, r.begin, r.state, r.last)

pub same_sender : (first second : Sender) (parts : SenderParts) → ArePartsOfSender first parts → ArePartsOfSender second parts → first ≡ second
same_sender first second parts f s =
    let begin = sym f.begin ∙ s.begin in
    let last = sym f.last ∙ s.last in
    let state = one_state first.state second.state (sym f.state ∙ s.state) (sym f.slot ∙ s.slot) in
    let frame = sym f.frame ∙ s.frame in
    let all : sender_kept first ≡ sender_kept second = cc in
    same sender_made sender_prop (sender_kept first) (sender_kept second) (first.begun, first.ended, first.filled) (second.begun, second.ended, second.filled) all

-- ---- what is kept is taken back

pub taken_back : (receiver : Receiver) (parts : ReceiverParts) (result : Option Receiver) → ArePartsOf receiver parts → IfSome result (λ r. ArePartsOf r parts) → IsSome result → result ≡ Some receiver
taken_back receiver parts None p found there = cc
taken_back receiver parts (Some r) p found there = ap Some (same_receiver r receiver parts found p)

pub taken_back_sender : (sender : Sender) (parts : SenderParts) (result : Option Sender) → ArePartsOfSender sender parts → IfSome result (λ s. ArePartsOfSender s parts) → IsSome result → result ≡ Some sender
taken_back_sender sender parts None p found there = cc
taken_back_sender sender parts (Some s) p found there = ap Some (same_sender s sender parts found p)

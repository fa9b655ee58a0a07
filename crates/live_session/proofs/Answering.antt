-- What is due of a step, from what was reported and the answer.
use Rattle.std.proofs.Common.{◌≡◌, ℕ, ◌∙◌, Bool, true, false, true≢false, List, ◌++◌, slice_get, Option, Some, Result, Ok, Err, is_err, ap, sym, refl, subst}
use Rattle.text_core.specs.declared.sink.WriteFault.{WriteFault}
use Rattle.text_core.specs.Adds.{Adds, Tally}
use Rattle.text_core.specs.Cut.{WrittenText}
use Rattle.text_core.proofs.Adding.{after_failure, cut_short, not_yet, then}
use Rattle.device_core.specs.State.{State}
use Rattle.room_run.specs.Run.{Config, end_reported}
use Rattle.live_session.specs.declared.live.Step.{Step}
use Rattle.live_session.specs.declared.live.Step.TheVariants.{Refuse, Idle, Go, Edge, Finish, Show}
use Rattle.live_session.specs.declared.answer.Refusal.{Refusal}
use Rattle.live_session.specs.Session.{Session, SessionGoes, StepsHaveOneText, IsDue, idle_text, refused_text, shown_text, span_of, taken_text}
use Rattle.live_session.specs.Taken.{IsAnswered, IsGone, IsTaken, StandsSomewhere}
use Rattle.live_session.specs.Turns.{certain_until, form_of}
use Rattle.live_session.proofs.Going.{goes_one}

-- a text after what is reported, by where the session then stands
pub record IsWhole (edges ended : Bool) (tail : Session → List ℕ) (s t : Session) (old new : Tally) : Type 0 where
  pub reported : List ℕ
  pub own : List ℕ
  pub place : Config
  pub goes : SessionGoes edges ended s reported own place
  pub added : Adds old new (own ++ tail (record s { place = place }))
  pub stands : new.failed ≡ false → t ≡ record s { place = place }
  pub somewhere : StandsSomewhere s t

pub whole_is : (edges ended : Bool) (tail : Session → List ℕ) (s t : Session) (old mid new : Tally) → IsGone edges ended s t old mid → Adds mid new (tail t) → IsWhole edges ended tail s t old new
whole_is edges ended tail s t old mid new gone next = by_fault mid.failed refl
  where
    after : Session
    after = record s { place = gone.place }

    by_fault : (b : Bool) → mid.failed ≡ b → IsWhole edges ended tail s t old new
    by_fault true e = record {
      reported = gone.reported;
      own = gone.text;
      place = gone.place;
      goes = gone.goes;
      added = subst (λ (n : Tally). Adds old n (gone.text ++ tail after)) (sym (after_failure mid new (tail t) e next)) (cut_short old mid gone.text (tail after) e gone.added);
      stands = λ f. absurd (true≢false (sym e ∙ not_yet mid new (tail t) f next));
      somewhere = gone.somewhere;
    }
    by_fault false e = record {
      reported = gone.reported;
      own = gone.text;
      place = gone.place;
      goes = gone.goes;
      added = then old mid new gone.text (tail after) gone.added (subst (λ (u : Session). Adds mid new (tail u)) (gone.stands e) next);
      stands = λ f. gone.stands e;
      somewhere = gone.somewhere;
    }

abbrev pub taken_tail : Session → List ℕ
taken_tail s = taken_text (form_of s.reporting) s.horizon

abbrev pub end_tail : Session → List ℕ
end_tail s = end_reported s.reporting s.horizon s.place.net ++ taken_text (form_of s.reporting) s.horizon

pub go_taken : (s t : Session) (old mid new : Tally) → IsGone s.edges false s t old mid → Adds mid new (taken_tail t) → IsTaken Go s t old new
go_taken s t old mid new gone next =
    let w = whole_is s.edges false taken_tail s t old mid new gone next in
    record { text = w.own ++ taken_text (form_of s.reporting) s.horizon; after = record s { place = w.place }; due = (w.reported, w.own, w.place, w.goes, refl, refl); added = w.added; stands = w.stands; somewhere = w.somewhere }

pub edge_taken : (s t : Session) (old mid new : Tally) → IsGone true false s t old mid → Adds mid new (taken_tail t) → IsTaken Edge s t old new
edge_taken s t old mid new gone next =
    let w = whole_is true false taken_tail s t old mid new gone next in
    record { text = w.own ++ taken_text (form_of s.reporting) s.horizon; after = record s { place = w.place }; due = (w.reported, w.own, w.place, w.goes, refl, refl); added = w.added; stands = w.stands; somewhere = w.somewhere }

pub finish_taken : (s t : Session) (old mid new : Tally) → IsGone s.edges true s t old mid → Adds mid new (end_tail t) → IsTaken Finish s t old new
finish_taken s t old mid new gone next =
    let w = whole_is s.edges true end_tail s t old mid new gone next in
    record {
      text = w.own ++ end_tail (record s { place = w.place });
      after = record s { place = w.place };
      due = (w.reported, w.own, w.place, w.goes, refl, refl);
      added = w.added;
      stands = w.stands;
      somewhere = w.somewhere;
    }

-- ---- an answer alone

same_state : (x : Option State) (a b : State) → x ≡ Some a → x ≡ Some b → a ≡ b
same_state x a b e f = cc

pub show_taken : (s : Session) (device : ℕ) (d : State) (old new : Tally) → slice_get s.place.net.devices device ≡ Some d → Adds old new (shown_text (form_of s.reporting) d) → IsTaken (Show device) s s old new
show_taken s device d old new found added = record { text = shown_text (form_of s.reporting) d; after = s; due = (d, found, refl, refl); added = added; stands = λ f. refl; somewhere = (s.place, refl) }

pub refuse_taken : (refusal : Refusal) (s : Session) (old new : Tally) → Adds old new (refused_text (form_of s.reporting) s.lines refusal) → IsTaken (Refuse refusal) s s old new
refuse_taken refusal s old new added = record { text = refused_text (form_of s.reporting) s.lines refusal; after = s; due = (refl, refl); added = added; stands = λ f. refl; somewhere = (s.place, refl) }

pub idle_taken : (s : Session) (old new : Tally) → Adds old new (idle_text (form_of s.reporting) s.horizon) → IsTaken Idle s s old new
idle_taken s old new added = record { text = idle_text (form_of s.reporting) s.horizon; after = s; due = (refl, refl); added = added; stands = λ f. refl; somewhere = (s.place, refl) }

-- ---- what was written, where what is due was added from the first byte on

pub answered : (step : Step) (s t : Session) (old b : Tally) (known now : Option (List ℕ)) (was is : Bool) (result : Result ℕ WriteFault) → (w : IsTaken step s t old b) → is_err result ≡ b.failed
    → WrittenText known now was is w.text result → IsAnswered step s t known now was is result
answered step s t old b known now was is (Ok count) w failed wrote = (w.text, subst (λ (u : Session). IsDue step s w.text u) (sym (w.stands (sym failed))) w.due, wrote.0, wrote.1, wrote.2)
answered step s t old b known now was is (Err fault) w failed wrote = ((w.text, w.after, w.due, wrote.0), wrote.1, w.somewhere)

-- ---- one text is due

-- what is due where the run goes on
abbrev IsGoing : Bool → Session → List ℕ → Session → Type 0
IsGoing edges s text t = (reported : List ℕ) × (own : List ℕ) × (place : Config) × SessionGoes edges false s reported own place × (text ≡ own ++ taken_text (form_of s.reporting) s.horizon) × (t ≡ record s { place = place })

going_one : (edges : Bool) (s t u : Session) (text other : List ℕ) → IsGoing edges s text t → IsGoing edges s other u → (text ≡ other) × (t ≡ u)
going_one edges s t u text other a b =
    let one = goes_one s.reporting false s.seats s.notes.pin (span_of edges false s) (certain_until s.notes.pin s.horizon) s.place a.2 b.2 a.0 a.1 b.0 b.1 a.3 b.3 in
    (a.4 ∙ ap (λ (xs : List ℕ). xs ++ taken_text (form_of s.reporting) s.horizon) one.0 ∙ sym b.4, a.5 ∙ ap (λ (p : Config). let v : Session = record s { place = p } in v) one.1 ∙ sym b.5)

pub steps_have_one_text : StepsHaveOneText
steps_have_one_text (Refuse refusal) s t u text other a b = (a.0 ∙ sym b.0, a.1 ∙ sym b.1)
steps_have_one_text Idle s t u text other a b = (a.0 ∙ sym b.0, a.1 ∙ sym b.1)
steps_have_one_text (Show device) s t u text other a b =
    (a.2 ∙ ap (λ (x : State). shown_text (form_of s.reporting) x) (same_state (slice_get s.place.net.devices device) a.0 b.0 a.1 b.1) ∙ sym b.2, a.3 ∙ sym b.3)
steps_have_one_text Go s t u text other a b = going_one s.edges s t u text other a b
steps_have_one_text Edge s t u text other a b = going_one true s t u text other a b
steps_have_one_text Finish s t u text other a b =
    let one = goes_one s.reporting true s.seats s.notes.pin (span_of s.edges true s) (certain_until s.notes.pin s.horizon) s.place a.2 b.2 a.0 a.1 b.0 b.1 a.3 b.3 in
    let tail : Config → List ℕ = λ p. end_reported s.reporting s.horizon p.net ++ taken_text (form_of s.reporting) s.horizon in (
      a.4 ∙ ap (λ (xs : List ℕ). xs ++ tail a.2) one.0 ∙ ap (λ (p : Config). b.1 ++ tail p) one.1 ∙ sym b.4,
      a.5 ∙ ap (λ (p : Config). let v : Session = record s { place = p } in v) one.1 ∙ sym b.5,
    )

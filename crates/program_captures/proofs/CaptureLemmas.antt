-- A capture by its edges and its end.
use Rattle.std.proofs.Common.{IfErr, OnOk, Ok, Result, inl, inr, ◌≡◌, ℕ, zero, suc, ◌==◌, ◌&&◌, Bool, true, false, if◌then◌else◌, arith, map, sym, List, [], Option, Some, None, Err, min, refl, ap, subst, append-nil, ◌∙◌}
use Rattle.line_reading.specs.Windows.{most_margin, standard, wider}
use Rattle.line_reading.specs.declared.times.Windows.{Windows}
use Rattle.capture_monitor.proofs.ReadBy.{standard_readings}
use Rattle.capture_monitor.specs.Watch.{captured_by}
use Rattle.std.proofs.lemmas.Bool.Decides.{nat_tests}
use Rattle.capture_smooth.specs.Smooth.{smooth_edges}
use Rattle.capture_smooth.proofs.Pairs.{smoothing}
use Rattle.capture_through.specs.Through.{made_of}
use Rattle.follow_core.specs.declared.reception.Reception.{Reception}
use Rattle.follow_core.specs.Follow.{HasFollowed, IsHandedOn, Stops, received}
use Rattle.follow_core.specs.Shown.{AreReported}
use Rattle.line_reading.specs.Readings.{Listed}
use Rattle.audit_core.specs.Audit.{audit_lines}
use Rattle.audit_notes.specs.Lines.{AuditLine, has_remark, lines_text}
use Rattle.follow_audit.specs.Follow.{Follows as FollowsAudit}
use Rattle.follow_audit.specs.Follow.{HasFollowed as HasAudited}
use Rattle.follow_audit.specs.Follow.{IsHandedOn as IsAuditHandedOn}
use Rattle.follow_audit.specs.Follow.{lines_in, text_of as audit_of}
use Rattle.follow_audit.specs.declared.view.AuditView.{AuditView}
use Rattle.cli_choice.specs.declared.choice.FollowChoice.{FollowChoice}
use Rattle.program_captures.specs.declared.fault.MonitorFault.TheVariants as faults
use Rattle.follow_audit.specs.declared.error.FollowAuditError.{FollowAuditError}
use Rattle.cli_choice.specs.declared.choice.FollowReport.TheVariants as reports
use Rattle.program_captures.specs.Following.{FollowsTo, IsCauseOf, IsOfRemark, StopsAudit, StopsSo, fault_of, readings_as, reception_of, view_of}
use Rattle.follow_core.specs.declared.error.FollowError.{FollowError}
use Rattle.program_captures.specs.declared.fault.MonitorFault.{MonitorFault}
use Rattle.std.specs.Io.KnownBytes.{Appends, append_known}
use Rattle.program_captures.specs.Captures.{AreGood, edges_kept, edges_turned, readings_at, turned_by, without_short}
use Rattle.capture_core.specs.Edges.{Captured, line_of_edges}
use Rattle.line_wave.specs.declared.Edge.{Edge}

pub same_capture : (c : Captured) (edges : List Edge) (end : ℕ) → c.edges ≡ edges → c.end ≡ end → c ≡ record { edges = edges; end = end }
same_capture c edges end es e =
    let one : (let r : Captured = record { edges = c.edges; end = c.end } in r) ≡ record { edges = edges; end = c.end } =
    ap (λ xs. let r : Captured = record { edges = xs; end = c.end } in r) es in
    let two : (let r : Captured = record { edges = edges; end = c.end } in r) ≡ record { edges = edges; end = end } =
    ap (λ n. let r : Captured = record { edges = edges; end = n } in r) e in
    one ∙ two

-- without a margin the windows are the standard's
pub readings_are : (margin : ℕ) (windows : Windows) (c : Captured) → windows ≡ wider (min margin most_margin) → captured_by windows c ≡ readings_at margin c
readings_are zero windows c e = let same : windows ≡ standard = e in ap (λ w. captured_by w c) same ∙ standard_readings (line_of_edges c.edges) c.end
readings_are (suc n) windows c e = ap (λ w. captured_by w c) e

never : false ≡ true → ⊥
never e = cc

-- what makes no fault is not strict, or has no remark
pub no_remark : (strict remarked : Bool) → (strict && remarked) ≡ false → strict ≡ true → remarked ≡ false
no_remark true remarked none is = none
no_remark false remarked none is = absurd (never is)

-- along two that are the same
pub along : {A : Type 0} {x y : A} → x ≡ y → (P : A → Type 0) → P x → P y
along e P one = subst P e one

-- a text that is put, by another name
pub put_as : (old new : Option (List ℕ)) (x y : List ℕ) → x ≡ y → Appends old new x → Appends old new y
put_as old new x y e one = subst (λ (text : List ℕ). Appends old new text) e one

-- ---- as its lines come

nothing_more : (known : Option (List ℕ)) → append_known known [] ≡ known
nothing_more None = refl
nothing_more (Some xs) = ap Some (append-nil xs)

-- all that was put is handed on
put_below : (old below : Option (List ℕ)) (pending text : List ℕ) → pending ≡ [] → Appends old (append_known below pending) text → Appends old below text
put_below old below pending text none put = subst (λ (new : Option (List ℕ)). Appends old new text) (ap (append_known below) none ∙ nothing_more below) put

some_kept : (n : ℕ) (edges : List Edge) → smooth_edges (suc n) edges ≡ edges_kept (suc n) edges
some_kept n edges = let some : (suc n == 0) ≡ false = grind (arith, nat_tests) in sym (ap (λ b. if b then edges else smooth_edges (suc n) edges) some)

-- what is made of a capture is its edges turned, and then without those that are too close
made_is : (inverted : Bool) (glitch : ℕ) (edges : List Edge) → made_of inverted glitch edges ≡ edges_kept glitch (edges_turned inverted edges)
made_is false zero edges = smoothing.none edges
made_is true zero edges = smoothing.none (edges_turned true edges)
made_is false (suc n) edges = some_kept n edges
made_is true (suc n) edges = some_kept n (edges_turned true edges)

received_is : (choice : FollowChoice) (c : Captured) → received (reception_of choice) c ≡ without_short choice.glitch (turned_by choice.inverted c)
received_is choice c = ap (λ (es : List Edge). let r : Captured = record { edges = es; end = c.end } in r) (made_is choice.inverted choice.glitch c.edges)

-- its readings
read_so : (choice : FollowChoice) (c : Captured) → captured_by (wider (min choice.margin most_margin)) (received (reception_of choice) c) ≡ readings_at choice.margin (without_short choice.glitch (turned_by choice.inverted c))
read_so choice c = readings_are choice.margin (wider (min choice.margin most_margin)) (received (reception_of choice) c) refl ∙ ap (readings_at choice.margin) (received_is choice c)

-- these are the lines of a report of readings
lines_of_report : (from_idle : Bool) (c : Captured) (xs : List Listed) (lines : List AuditLine) → AreReported from_idle c xs lines → AreGood (readings_as from_idle) c xs lines
lines_of_report false c xs lines h = (h, λ strict. absurd (never strict))
lines_of_report true c xs lines h = (h, λ strict. absurd (never strict))

good_lines : (choice : FollowChoice) (from_idle : Bool) (c : Captured) (lines : List AuditLine)
    → AreReported from_idle (received (reception_of choice) c) (captured_by (reception_of choice).windows (received (reception_of choice) c)) lines
    → AreGood (readings_as from_idle) (without_short choice.glitch (turned_by choice.inverted c)) (readings_at choice.margin (without_short choice.glitch (turned_by choice.inverted c))) lines
good_lines choice from_idle c lines h =
    let d : Captured = without_short choice.glitch (turned_by choice.inverted c) in
    lines_of_report from_idle d (readings_at choice.margin d) lines
    (subst (λ (x : Captured). AreReported from_idle x (readings_at choice.margin d) lines) (received_is choice c)
    (subst (λ (xs : List Listed). AreReported from_idle (received (reception_of choice) c) xs lines) (read_so choice c) h))

pub follows_to : (choice : FollowChoice) (from_idle folded : Bool) (name : List ℕ) (how : Reception) (known old below : Option (List ℕ)) (pending : List ℕ) → how ≡ reception_of choice → pending ≡ []
    → HasFollowed choice.form name (view_of choice from_idle folded) how known old (append_known below pending) → FollowsTo (record choice { report = reports.Readings from_idle folded }) name known old below
follows_to choice from_idle folded name how known old below pending e none follows =
    let f = subst (λ (h : Reception). HasFollowed choice.form name (view_of choice from_idle folded) h known old (append_known below pending)) e follows in
    record {
      input = f.input;
      all = f.all;
      text = f.text;
      reported = (f.is.0, (f.capture, f.read, good_lines choice from_idle f.capture f.is.0 f.is.1), f.is.2);
      put = put_below old below pending f.text none f.put;
    }

-- or why it ends before
pub stops_so : (choice : FollowChoice) (from_idle folded : Bool) (name : List ℕ) (how : Reception) (known old new : Option (List ℕ)) (before pending : List ℕ) (error : FollowError) (fault : MonitorFault) → how ≡ reception_of choice
    → fault ≡ fault_of error → Stops choice.form name (view_of choice from_idle folded) how known old new error → (before ≡ [] → IsHandedOn error pending)
    → StopsSo choice from_idle folded name known old new before pending fault
stops_so choice from_idle folded name how known old new before pending error fault e cause stops handed = record {
  error = error;
  cause = cause;
  stops = subst (λ (h : Reception). Stops choice.form name (view_of choice from_idle folded) h known old new error) e stops;
  handed = handed;
}

-- ---- an audit

abbrev audit_view : FollowChoice → Bool → AuditView
audit_view choice timing = record { timing = timing; written = choice.written }

-- a capture as it is read
abbrev read_as : FollowChoice → Captured → Captured
read_as choice c = without_short choice.glitch (turned_by choice.inverted c)

-- the lines of the whole
lines_are : (choice : FollowChoice) (timing : Bool) (c : Captured) → lines_in (audit_view choice timing) (wider (min choice.margin most_margin)) (received (reception_of choice) c) ≡ audit_lines timing (read_as choice c) (readings_at choice.margin (read_as choice c))
lines_are choice timing c =
    ap (λ (d : Captured). audit_lines timing d (captured_by (wider (min choice.margin most_margin)) d)) (received_is choice c)
    ∙ ap (audit_lines timing (read_as choice c)) (readings_are choice.margin (wider (min choice.margin most_margin)) (read_as choice c) refl)

-- a strict one has no remark
pub audits_to : (choice : FollowChoice) (timing strict remarked : Bool) (name : List ℕ) (how : Reception) (known old below : Option (List ℕ)) (pending : List ℕ) → how ≡ reception_of choice → pending ≡ []
    → (strict ≡ true → remarked ≡ false) → HasAudited choice.form name how (audit_view choice timing) remarked known old (append_known below pending) → FollowsTo (record choice { report = reports.Audit timing strict }) name known old below
audits_to choice timing strict remarked name how known old below pending e none good follows =
    let f = subst (λ (h : Reception). HasAudited choice.form name h (audit_view choice timing) remarked known old (append_known below pending)) e follows in
    let same = lines_are choice timing f.capture in
    record {
      input = f.input;
      all = f.all;
      text = audit_of (audit_view choice timing) (wider (min choice.margin most_margin)) (received (reception_of choice) f.capture);
      reported = (
        audit_lines timing (read_as choice f.capture) (readings_at choice.margin (read_as choice f.capture)),
        (f.capture, f.read, (refl, λ is. sym (f.noted ∙ ap has_remark same) ∙ good is)),
        ap (lines_text choice.written) same,
      );
      put = put_below old below pending (audit_of (audit_view choice timing) (wider (min choice.margin most_margin)) (received (reception_of choice) f.capture)) none f.put;
    }

-- or it has one, and all of it was put
pub stops_at_remark : (choice : FollowChoice) (timing strict remarked : Bool) (name : List ℕ) (how : Reception) (known old new : Option (List ℕ)) (before pending : List ℕ) (fault : MonitorFault) → how ≡ reception_of choice → pending ≡ []
    → IsOfRemark strict remarked fault → HasAudited choice.form name how (audit_view choice timing) remarked known old new → StopsAudit choice timing strict name known old new before pending fault
stops_at_remark choice timing strict remarked name how known old new before pending fault e none why follows =
    let f = subst (λ (h : Reception). HasAudited choice.form name h (audit_view choice timing) remarked known old new) e follows in
    let same = lines_are choice timing f.capture in
    inr (record {
      input = f.input;
      all = f.all;
      lines = audit_lines timing (read_as choice f.capture) (readings_at choice.margin (read_as choice f.capture));
      heard = (f.capture, f.read, (refl, λ is. absurd (never is)));
      put = subst (λ (ls : List AuditLine). Appends old new (lines_text choice.written ls)) same f.put;
      handed = none;
      remark = record { cause = why.cause; is_strict = why.is_strict; is_remarked = sym (f.noted ∙ ap has_remark same) ∙ why.is_remarked };
    })

pub audit_ends : (choice : FollowChoice) (timing strict remarked : Bool) (name : List ℕ) (how : Reception) (known old new : Option (List ℕ)) (before pending : List ℕ) (result : Result (Unit {0}) MonitorFault) → how ≡ reception_of choice
    → pending ≡ [] → IfErr result (λ fault. IsOfRemark strict remarked fault) → HasAudited choice.form name how (audit_view choice timing) remarked known old new
    → IfErr result (StopsAudit choice timing strict name known old new before pending)
audit_ends choice timing strict remarked name how known old new before pending (Ok done) e none why f = tt
audit_ends choice timing strict remarked name how known old new before pending (Err fault) e none why f = stops_at_remark choice timing strict remarked name how known old new before pending fault e none why f

pub audit_done : (choice : FollowChoice) (timing strict remarked : Bool) (name : List ℕ) (how : Reception) (known old below : Option (List ℕ)) (pending : List ℕ) (result : Result (Unit {0}) MonitorFault) → how ≡ reception_of choice
    → pending ≡ [] → OnOk result (strict ≡ true → remarked ≡ false) → HasAudited choice.form name how (audit_view choice timing) remarked known old (append_known below pending)
    → OnOk result (FollowsTo (record choice { report = reports.Audit timing strict }) name known old below)
audit_done choice timing strict remarked name how known old below pending (Ok done) e none good f = audits_to choice timing strict remarked name how known old below pending e none good f
audit_done choice timing strict remarked name how known old below pending (Err fault) e none good f = tt

-- or why it ends before
pub stops_audit : (choice : FollowChoice) (timing strict : Bool) (name : List ℕ) (how : Reception) (known old new : Option (List ℕ)) (before pending : List ℕ) (error : FollowAuditError) (fault : MonitorFault) → how ≡ reception_of choice
    → IsCauseOf error fault → FollowsAudit choice.form name how (audit_view choice timing) known old new (Err error) → (before ≡ [] → IsAuditHandedOn error pending) → StopsAudit choice timing strict name known old new before pending fault
stops_audit choice timing strict name how known old new before pending error fault e cause stops handed = inl (record {
  error = error;
  cause = cause;
  stops = subst (λ (h : Reception). FollowsAudit choice.form name h (audit_view choice timing) known old new (Err error)) e stops;
  handed = handed;
})

-- a remark is one of a strict audit
pub of_remark : (strict remarked : Bool) (fault : MonitorFault) → fault ≡ faults.Remarked → (strict && remarked) ≡ true → IsOfRemark strict remarked fault
of_remark true true fault cause both = record { cause = cause; is_strict = refl; is_remarked = refl }
of_remark true false fault cause both = absurd (never both)
of_remark false remarked fault cause both = absurd (never both)

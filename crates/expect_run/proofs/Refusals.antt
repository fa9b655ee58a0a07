-- A run up to a time is not refused where the whole one is not.
use Rattle.std.proofs.Common.{◌≡◌, ℕ, ◌≤◌, List, Option, IsSome, Some, None, Result, Ok, Err, ap, sym, subst, ◌∙◌}
use Rattle.line_wave.specs.Bounds.{latest_event}
use Rattle.text_core.specs.declared.phys.Phys.{Phys}
use Rattle.edid_core.specs.Address.{edid_address}
use Rattle.edid_core.specs.Bytes.{edid_bytes, IsRefused}
use Rattle.edid_core.specs.declared.edid.Edid.{Edid as EdidValue}
use Rattle.edid_core.proofs.OneEdid.{not_refused, one_edid}
use Rattle.edid_core.specs.Root.{IsNoRoot, IsRoot}
use Rattle.edid_core.specs.declared.root.EdidCause.{EdidCause}
use Rattle.edid_core.specs.declared.root.EdidCause.TheVariants.{Edid as OfEdid, NoHdmiBlock}
use Rattle.room_script.specs.Topology.{Plan, topology_of}
use Rattle.text_core.specs.declared.at.At.{At}
use Rattle.room_script.specs.declared.topology.TopologyCause.{TopologyCause}
use Rattle.room_script.specs.Script.{IsScriptRead, OneScript}
use Rattle.expect_text.specs.Line.{cut_script}
use Rattle.room_run.specs.Emulate.{IsTraceOf, IsReported}
use Rattle.room_run.specs.declared.emulate.EmulateError.{EmulateError}
use Rattle.room_run.specs.declared.emulate.EmulateError.TheVariants.{Topology, Script, Edid, Write, Memory}
use Rattle.room_run.specs.declared.run.Totals.{Totals}
use Rattle.expect_run.proofs.Cuts.{cuts_are_read}

-- ---- an EDID that is read is not refused

no_cause : (bytes : List ℕ) (root : EdidValue) (cause : EdidCause) → edid_bytes root ≡ bytes → IsSome (edid_address root) → IsNoRoot bytes cause → ⊥
no_cause bytes root (OfEdid error) spells some refused = not_refused root error (subst (λ xs. IsRefused xs error) (sym spells) refused)
no_cause bytes root NoHdmiBlock spells some (other, same, none) =
    let one : root ≡ other = one_edid root other (spells ∙ sym same) in
    let address : edid_address root ≡ None = ap edid_address one ∙ none in
    clash (edid_address root) address some
  where
    clash : (a : Option Phys) → a ≡ None → IsSome a → ⊥
    clash a same there = cc

no_root_refused : (bytes : Option (List ℕ)) (root : Option EdidValue) (given : List ℕ) (cause : EdidCause) → IsRoot bytes root → bytes ≡ Some given → IsNoRoot given cause → ⊥
no_root_refused None root given cause r is refused = cc
no_root_refused (Some bytes) None given cause r is refused = absurd r
no_root_refused (Some bytes) (Some root) given cause r is refused =
    let same : bytes ≡ given = cc in
    no_cause given root cause (r.0 ∙ same) r.1 refused

-- ---- runs

-- what is left is want of memory
abbrev pub IsWant : EmulateError → Type 0
IsWant (Topology line cause word) = ⊥
IsWant (Script line cause word) = ⊥
IsWant (Edid cause) = ⊥
IsWant (Write count) = Unit {0}
IsWant Memory = Unit {0}

one_plan : (p q : Plan) (r : Result Plan (At TopologyCause)) → r ≡ Ok p → r ≡ Ok q → q ≡ p
one_plan p q r a b = cc

pub not_refused_earlier : OneScript → (topology plain text : List ℕ) (time : ℕ) (totals : Totals) (error : EmulateError) → time ≤ latest_event → IsTraceOf topology plain text totals
    → IsReported topology (cut_script time plain) error → IsWant error
not_refused_earlier law topology plain text time totals (Topology line cause word) early run reported = (let accepted = run.accepted.plan_is in cc)
not_refused_earlier law topology plain text time totals (Script line cause word) early run reported =
    let same : reported.0 ≡ run.plan = one_plan run.plan reported.0 (topology_of topology) run.accepted.plan_is reported.1 in
    let refused = subst (λ (p : Plan). IsScriptRead p.tree (cut_script time plain) (Err (record { line = line; cause = cause; word = word }))) same reported.2 in
    let cut = cuts_are_read run.plan.tree time plain run.course early run.accepted.course_is in
    let clash = law run.plan.tree (cut_script time plain) cut.0 (Err (record { line = line; cause = cause; word = word })) cut.2 refused in
    cc
not_refused_earlier law topology plain text time totals (Edid cause) early run reported =
    let same : reported.0 ≡ run.plan = one_plan run.plan reported.0 (topology_of topology) run.accepted.plan_is reported.2.plan_is in
    no_root_refused run.plan.edid run.edid reported.3 cause run.root (ap (λ (p : Plan). p.edid) (sym same) ∙ reported.4) reported.5
not_refused_earlier law topology plain text time totals (Write count) early run reported = tt
not_refused_earlier law topology plain text time totals Memory early run reported = tt

-- Refusals have numbers of their own, and what is put leaves none of them.
use Rattle.std.proofs.Common.{◌≡◌, ℕ, ◌==◌, ◌<◌, ◌≤◌, Bool, true, false, if◌then◌else◌, List, length, inl, inr, arith, ap}
use Rattle.std.proofs.lemmas.Bool.{cases_lt}
use Rattle.room_script.specs.declared.script.ScriptCause.{ScriptCause}
use Rattle.room_script.specs.declared.script.ScriptCause.TheVariants as scripts
use Rattle.room_script.specs.declared.topology.TopologyCause.{TopologyCause}
use Rattle.room_script.specs.declared.topology.TopologyCause.TheVariants as topologies
use Rattle.expect_run.specs.declared.checking.CheckError.{CheckError}
use Rattle.expect_run.specs.declared.checking.CheckError.TheVariants as checks
use Rattle.expect_text.specs.declared.form.ExpectCause.{ExpectCause}
use Rattle.expect_text.specs.declared.form.ExpectCause.TheVariants as expects
use Rattle.capture_monitor.specs.declared.watching.WatchError.{WatchError}
use Rattle.capture_monitor.specs.declared.watching.WatchError.TheVariants as watches
use Rattle.room_run.specs.declared.emulate.EmulateError.{EmulateError}
use Rattle.room_run.specs.declared.emulate.EmulateError.TheVariants as runs
use Rattle.message_text.specs.declared.assembler.AssembleError.{AssembleError}
use Rattle.message_text.specs.declared.assembler.AssembleError.TheVariants as texts
use Rattle.edid_core.specs.declared.root.EdidCause.{EdidCause}
use Rattle.edid_core.specs.declared.root.EdidCause.TheVariants as roots
use Rattle.edid_base.specs.declared.base.BaseError.{BaseError}
use Rattle.edid_base.specs.declared.base.BaseError.TheVariants as bases
use Rattle.edid_core.specs.declared.bytes.EdidError.{EdidError}
use Rattle.edid_core.specs.declared.bytes.EdidError.TheVariants as edids
use Rattle.library_answers.specs.Codes.{number_of}
use Rattle.library_answers.specs.Faults.{base_code, edid_code, text_code}
use Rattle.library_answers.specs.Room.{IsPut}
use Rattle.library_answers.specs.declared.answer.Answer.{Answer}
use Rattle.library_answers.specs.declared.code.Code.TheVariants.{EdidFirst, EdidSecond, EdidThird}
use Rattle.library_run.specs.Checking.{check_answer, expect_code}
use Rattle.library_run.specs.Run.{root_code, run_answer, script_code, topology_code}
use Rattle.library_run.specs.Watching.{watch_answer}

topology_more : (cause : TopologyCause) → 1 < number_of (topology_code cause)
topology_more topologies.Word = omega arith
topology_more topologies.Number = omega arith
topology_more topologies.Name = omega arith
topology_more topologies.Full = omega arith
topology_more topologies.SecondRoot = omega arith
topology_more topologies.NoRoot = omega arith
topology_more topologies.PortRange = omega arith
topology_more topologies.PortTaken = omega arith
topology_more topologies.NotLoose = omega arith
topology_more topologies.Loop = omega arith
topology_more topologies.Hex = omega arith

text_more : (cause : AssembleError) → 1 < number_of (text_code cause)
text_more texts.Name = omega arith
text_more texts.Operand = omega arith
text_more texts.Count = omega arith
text_more texts.Address = omega arith
text_more texts.TooLong = omega arith

script_more : (cause : ScriptCause) → 1 < number_of (script_code cause)
script_more scripts.Word = omega arith
script_more scripts.Number = omega arith
script_more scripts.Name = omega arith
script_more scripts.Hex = omega arith
script_more scripts.Width = omega arith
script_more scripts.Order = omega arith
script_more scripts.Close = omega arith
script_more scripts.TooMany = omega arith
script_more scripts.End = omega arith
script_more (scripts.Frame cause) = text_more cause

base_more : (cause : BaseError) → 1 < number_of (base_code cause)
base_more bases.Header = omega arith
base_more bases.Checksum = omega arith
base_more bases.Revision = omega arith
base_more bases.Maker = omega arith

one_of : (a b : Bool) → 1 < number_of (if a then EdidFirst else if b then EdidSecond else EdidThird)
one_of true b = omega arith
one_of false true = omega arith
one_of false false = omega arith

edid_more : (cause : EdidError) → 1 < number_of (edid_code cause)
edid_more edids.Length = omega arith
edid_more edids.Count = omega arith
edid_more (edids.Base cause) = base_more cause
edid_more (edids.Ext number cause) = one_of (number == 1) (number == 2)

root_more : (cause : EdidCause) → 1 < number_of (root_code cause)
root_more (roots.Edid cause) = edid_more cause
root_more roots.NoHdmiBlock = omega arith

run_more : (error : EmulateError) → 1 < (run_answer error).code
run_more (runs.Topology line cause word) = topology_more cause
run_more (runs.Script line cause word) = script_more cause
run_more (runs.Edid cause) = root_more cause
run_more (runs.Write count) = omega arith
run_more runs.Memory = omega arith

watch_more : (error : WatchError) → 1 < (watch_answer error).code
watch_more (watches.Line line word) = omega arith
watch_more (watches.Order line word) = omega arith
watch_more (watches.Write count) = omega arith
watch_more watches.Memory = omega arith

expect_more : (cause : ExpectCause) → 1 < number_of (expect_code cause)
expect_more expects.Word = omega arith
expect_more expects.Pattern = omega arith
expect_more expects.Number = omega arith
expect_more expects.Name = omega arith
expect_more expects.Label = omega arith
expect_more expects.Order = omega arith
expect_more expects.Unmet = omega arith

check_more : (error : CheckError) → 1 < (check_answer error).code
check_more (checks.Emulate error) = run_more error
check_more (checks.Expect fault) = expect_more fault.cause
check_more (checks.Write count) = omega arith
check_more checks.Memory = omega arith

-- a run that is refused is not done
pub not_run : (error : EmulateError) (answer : Answer) → answer ≡ run_answer error → answer.code ≤ 1 → ⊥
not_run error answer is little =
    let code : answer.code ≡ (run_answer error).code = ap (λ (a : Answer). a.code) is in
    let more = run_more error in
    omega (arith, code, more, little)

pub not_watched : (error : WatchError) (answer : Answer) → answer ≡ watch_answer error → answer.code ≤ 1 → ⊥
not_watched error answer is little =
    let code : answer.code ≡ (watch_answer error).code = ap (λ (a : Answer). a.code) is in
    let more = watch_more error in
    omega (arith, code, more, little)

pub not_checked : (error : CheckError) (answer : Answer) → answer ≡ check_answer error → answer.code ≤ 1 → ⊥
not_checked error answer is little =
    let code : answer.code ≡ (check_answer error).code = ap (λ (a : Answer). a.code) is in
    let more = check_more error in
    omega (arith, code, more, little)

-- bytes that are put are refused for want of room alone
pub no_refusal : (text old new : List ℕ) (answer : Answer) → IsPut text old new answer → 1 < answer.code → ⊥
no_refusal text old new answer p more = elim (cases_lt (length old) (length text)) [
  | inl lt ↦ (let k = (p.too_long lt).0 in omega (arith, k, more))
  | inr ge ↦ (let k = (p.fits (omega (arith, ge))).0 in omega (arith, k, more))
]

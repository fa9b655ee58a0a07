-- Objects of the lines of a run.
use Rattle.std.proofs.Common.{◌≡◌, ◌++◌, ℕ, Bool, true, false, List, [], OnOk, Option, Result}
use Rattle.std.specs.Io.KnownBytes.{Appends}
use Rattle.room_trace.specs.Room.{heads_in, room_if}
use Rattle.room_run.specs.Emulate.{AreObjectsOf as AreRunObjects}
use Rattle.room_run.specs.Objects.{AreOfRecords}
use Rattle.room_run.proofs.ObjectLines.{objects_are_of_the_trace}
use Rattle.room_run.specs.declared.run.Totals.{Totals}
use Rattle.program_calls.specs.Done.{AreRunDone, Writes}
use Rattle.program_input.specs.Parted.{IsRunInput}
use Rattle.program_calls.proofs.ShownLemmas.{on_ok}
use Rattle.cli_choice.specs.declared.choice.CommandChoice.TheVariants.{Json}
use Rattle.cli_choice.specs.declared.choice.Objects.TheVariants as of

-- ---- of a run, while it runs

run_done : (with_room : Bool) (input topology script : List ℕ) (totals : Totals) (text trace objects : List ℕ) → IsRunInput input topology script → AreRunObjects with_room topology script text totals
    → AreOfRecords trace objects → text ≡ heads_in (room_if with_room topology script) ++ objects → AreRunDone with_room input trace text
run_done with_room input topology script totals text trace objects parts are records whole =
    record { topology = topology; script = script; totals = totals; parts = parts; objects = are; of_lines = objects; records = records; whole = whole }

pub trace_done : (strict : Bool) (input topology script : List ℕ) (totals : Totals) (before after : Option (List ℕ)) → IsRunInput input topology script → (strict ≡ true → totals.refused ≡ 0)
    → (text : List ℕ) × AreRunObjects false topology script text totals × Appends before after text → Writes (Json (of.Trace strict)) [] input before after
trace_done strict input topology script totals before after parts taken w =
    let shown = objects_are_of_the_trace false topology script w.0 totals w.1 in (
      w.0,
      (
        shown.0,
        (totals, record { topology = topology; script = script; parts = parts; trace = shown.2 }, taken),
        run_done false input topology script totals w.0 shown.0 shown.1 parts w.1 shown.3 shown.4,
      ),
      w.2,
    )

pub room_done : (strict : Bool) (input topology script : List ℕ) (totals : Totals) (before after : Option (List ℕ)) → IsRunInput input topology script → (strict ≡ true → totals.refused ≡ 0)
    → (text : List ℕ) × AreRunObjects true topology script text totals × Appends before after text → Writes (Json (of.Room strict)) [] input before after
room_done strict input topology script totals before after parts taken w =
    let shown = objects_are_of_the_trace true topology script w.0 totals w.1 in (
      w.0,
      (
        shown.0,
        (totals, record { topology = topology; script = script; parts = parts; trace = shown.2 }, taken),
        run_done true input topology script totals w.0 shown.0 shown.1 parts w.1 shown.3 shown.4,
      ),
      w.2,
    )

pub trace_ended : {A E : Type 0} (result : Result A E) (strict : Bool) (input topology script : List ℕ) (totals : Totals) (before after : Option (List ℕ)) → IsRunInput input topology script
    → (text : List ℕ) × AreRunObjects false topology script text totals × Appends before after text
    → OnOk result (strict ≡ true → totals.refused ≡ 0) → OnOk result (Writes (Json (of.Trace strict)) [] input before after)
trace_ended result strict input topology script totals before after parts w =
    on_ok result _ _ (λ taken. trace_done strict input topology script totals before after parts taken w)

pub room_ended : {A E : Type 0} (result : Result A E) (strict : Bool) (input topology script : List ℕ) (totals : Totals) (before after : Option (List ℕ)) → IsRunInput input topology script
    → (text : List ℕ) × AreRunObjects true topology script text totals × Appends before after text
    → OnOk result (strict ≡ true → totals.refused ≡ 0) → OnOk result (Writes (Json (of.Room strict)) [] input before after)
room_ended result strict input topology script totals before after parts w =
    on_ok result _ _ (λ taken. room_done strict input topology script totals before after parts taken w)

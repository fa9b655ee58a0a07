-- Two rows of a table have other words at some place, or other lengths.
use Rattle.std.proofs.Common.{◌≡◌, true, refl}
use Rattle.text_forms.specs.Laws.{all_apart, are_apart}
use Rattle.room_lines.specs.Expect.{expect_rows}
use Rattle.room_lines.specs.Script.{script_rows}
use Rattle.room_lines.specs.Session.{session_rows}
use Rattle.room_lines.specs.Step.{step_rows}
use Rattle.room_lines.specs.Topology.{topology_rows}

pub topology_apart : all_apart topology_rows ≡ true
unfolding all_apart are_apart
topology_apart = refl

pub script_apart : all_apart script_rows ≡ true
unfolding all_apart are_apart
script_apart = refl

pub session_apart : all_apart session_rows ≡ true
unfolding all_apart are_apart
session_apart = refl

pub step_apart : all_apart step_rows ≡ true
unfolding all_apart are_apart
step_apart = refl

pub expect_apart : all_apart expect_rows ≡ true
unfolding all_apart are_apart
expect_apart = refl

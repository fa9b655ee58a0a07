use Rattle.live_session.proofs.Coming.{Laws}
use Rattle.live_session.proofs.Ending as Ending
use Rattle.live_session.proofs.Telling as Telling
use Rattle.live_session.proofs.laws.edges_are_certain.Goals as goal

pub returns-clause-certain : goal.returns-clause-certain
returns-clause-certain c =
    let laws : Laws = record { lone = c.rounds_are_lone.ensures; waves = c.runs_are_waves.ensures; order = c.runs_are_in_order.ensures; takes = c.rounds_take_pulses.ensures } in
    Telling.edges_are_certain laws c.one_run.ensures c.runs_have_texts.ensures c.edges_are_the_line.ensures

pub returns-clause-told : goal.returns-clause-told
returns-clause-told c =
    let laws : Laws = record { lone = c.rounds_are_lone.ensures; waves = c.runs_are_waves.ensures; order = c.runs_are_in_order.ensures; takes = c.rounds_take_pulses.ensures } in
    Ending.edges_are_told laws c.one_run.ensures c.runs_have_texts.ensures c.edges_are_the_line.ensures

pub returns-clause-line : goal.returns-clause-line
returns-clause-line c =
    let laws : Laws = record { lone = c.rounds_are_lone.ensures; waves = c.runs_are_waves.ensures; order = c.runs_are_in_order.ensures; takes = c.rounds_take_pulses.ensures } in
    Telling.line_edges_are_certain laws c.one_run.ensures c.runs_have_texts.ensures c.edges_are_the_line.ensures

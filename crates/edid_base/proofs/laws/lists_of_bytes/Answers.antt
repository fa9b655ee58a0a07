use Rattle.edid_base.proofs.Bytes.{are_bytes-cells, are_bytes-cons, are_bytes-append, are_bytes-take, are_bytes-drop, are_bytes-after, are_bytes-at}
use Rattle.edid_base.proofs.laws.lists_of_bytes.Goals as goal

pub returns-clause-each : goal.returns-clause-each
returns-clause-each c = are_bytes-cells

pub returns-clause-first : goal.returns-clause-first
returns-clause-first c = are_bytes-cons

pub returns-clause-joined : goal.returns-clause-joined
returns-clause-joined c = are_bytes-append

pub returns-clause-front : goal.returns-clause-front
returns-clause-front c = are_bytes-take

pub returns-clause-rest : goal.returns-clause-rest
returns-clause-rest c = are_bytes-drop

pub returns-clause-last : goal.returns-clause-last
returns-clause-last c = are_bytes-after

pub returns-clause-place : goal.returns-clause-place
returns-clause-place c = are_bytes-at

use Rattle.std.proofs.Common.{take}
use Rattle.line_wire.proofs.Searching.{pulls_follow, among_begun, among_pulls, among_edges, among_sparse}
use Rattle.line_wire.proofs.edge_wire.EdgeWire.next_edge_among.Goals as goal

pub search-requires : goal.search-requires
search-requires c =
    let w = c.args.self.now in
    record { begun = (take w.begun c.args.pulls.now, c.requires.begun, pulls_follow c.args.pulls.now c.split_at.result.1.now w c.requires.begun c.requires.pulls c.split_at.ensures.back) }

pub returns-clause-begun : goal.returns-clause-begun
returns-clause-begun c =
    let w = c.args.self.now in
    among_begun c.args.pulls.now c.split_at.result.1.now w c.search.new.self c.search.result c.split_at.ensures.back
    (c.search.ensures.found (take w.begun c.args.pulls.now) c.requires.begun (pulls_follow c.args.pulls.now c.split_at.result.1.now w c.requires.begun c.requires.pulls c.split_at.ensures.back))

pub returns-clause-pulls : goal.returns-clause-pulls
returns-clause-pulls c =
    let w = c.args.self.now in
    among_pulls c.args.pulls.now c.split_at.result.1.now w c.search.new.self c.search.result c.requires.pulls.wave c.requires.pulls.ends c.split_at.ensures.back
    (c.search.ensures.found (take w.begun c.args.pulls.now) c.requires.begun (pulls_follow c.args.pulls.now c.split_at.result.1.now w c.requires.begun c.requires.pulls c.split_at.ensures.back))

pub returns-clause-edge : goal.returns-clause-edge
returns-clause-edge c =
    let w = c.args.self.now in
    among_edges c.args.pulls.now c.split_at.result.1.now w c.search.new.self c.search.result c.requires.pulls.wave c.split_at.ensures.back
    (c.search.ensures.found (take w.begun c.args.pulls.now) c.requires.begun (pulls_follow c.args.pulls.now c.split_at.result.1.now w c.requires.begun c.requires.pulls c.split_at.ensures.back))

pub returns-clause-near : goal.returns-clause-near
returns-clause-near c = λ sparse l.
    let w = c.args.self.now in
    c.search.ensures.near (take w.begun c.args.pulls.now) c.requires.begun (pulls_follow c.args.pulls.now c.split_at.result.1.now w c.requires.begun c.requires.pulls c.split_at.ensures.back)
    (among_sparse c.args.pulls.now c.split_at.result.1.now w.begun c.split_at.ensures.back sparse) l

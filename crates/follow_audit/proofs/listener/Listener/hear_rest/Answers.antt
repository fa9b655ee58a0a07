use Rattle.std.proofs.Common.{◌++◌, ap, option_map, sym, ◌∙◌, append_assoc}
use Rattle.std.specs.Option.{option_to_list}
use Rattle.line_reading.specs.Reports.{listed_as}
use Rattle.follow_core.specs.Teller.{listed_pair}
use Rattle.follow_audit.proofs.Audited.{last_as, last_remarked, last_two, says_end}
use Rattle.follow_audit.proofs.listener.Listener.hear_rest.Goals as goal

pub returns : goal.returns
returns g c =
    let hears = g.H.LineHearer.hears in
    let both = g.met.H.LineHearer.then in
    let a = option_to_list (option_map listed_as c.args.by_edge.first) in
    let b = option_to_list (option_map listed_as c.args.by_edge.second) in
    let d = option_to_list (option_map listed_as c.args.by_calm.first) in
    let e = option_to_list (option_map listed_as c.args.by_calm.second) in
    let last = option_to_list (option_map listed_as c.args.last) in
    says_end hears both c.summarize.new.out c.args.end
    (last_as hears _ _ _ _ ((((a ++ b) ++ d) ++ e) ++ last) (listed_pair c.args.by_edge ++ (listed_pair c.args.by_calm ++ last))
    (append_assoc ((a ++ b) ++ d) e last ∙ append_assoc (a ++ b) d (e ++ last) ∙ ap (λ xs. (a ++ b) ++ xs) (sym (append_assoc d e last)))
    (last_two hears both (last_two hears both (last_two hears both (last_two hears both (last_two hears both (last_remarked hears _ _ _ _ c.remark.ensures.remarks c.remark.ensures.heard) c.hear_last.ensures) c.hear_last-2.ensures) c.hear_last-3.ensures) c.hear_last-4.ensures) c.hear_last-5.ensures))
    c.summarize.ensures

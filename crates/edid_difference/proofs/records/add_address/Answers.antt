use Rattle.std.proofs.Common.{List, ℕ, sym, subst, take, drop, codes, flat_map}
use Rattle.std.specs.Str.{bytes_eq}
use Rattle.std.proofs.lemmas.Grind.{flat_map-append}
use Rattle.text_core.specs.Adds.{Adds}
use Rattle.text_core.proofs.Adding.{then}
use Rattle.edid_text_lines.specs.Text.{word_text}
use Rattle.edid_difference.specs.Records.{change_text}
use Rattle.edid_difference.specs.Values.{Change, change_unless}
use Rattle.edid_difference.proofs.records.add_address.Goals as goal

pub returns : goal.returns
returns g c =
    let T : Change → List ℕ = change_text c.args.lines.form c.args.lines.block c.args.lines.number c.args.lines.other (word_text c.args.lines.word) in
    let address : List Change =
    change_unless (bytes_eq (take 2 c.args.first.now) (take 2 c.args.second.now)) (codes "address") (take 7 c.args.one.now) (take 7 c.args.other.now) in
    let bytes : List Change =
    change_unless (bytes_eq (drop 2 c.args.first.now) (drop 2 c.args.second.now)) (codes "bytes") (drop 8 c.args.one.now) (drop 8 c.args.other.now) in
    let one : Adds c.args.out.now c.add_unless.new.out (flat_map T address) =
    rw (c.is_same.ensures, c.before-2.ensures, c.before-3.ensures, c.before-4.ensures, c.before-5.ensures) at c.add_unless.ensures in
    let more : Adds c.add_unless.new.out c.add_unless-2.new.out (flat_map T bytes) =
    rw (c.is_same-2.ensures, c.after.ensures, c.after-2.ensures, c.after-3.ensures, c.after-4.ensures) at c.add_unless-2.ensures in
    subst (λ (t : List ℕ). Adds c.args.out.now c.add_unless-2.new.out t) (sym (flat_map-append T address bytes)) (then _ _ _ (flat_map T address) (flat_map T bytes) one more)

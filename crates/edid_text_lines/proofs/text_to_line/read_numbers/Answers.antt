use Rattle.std.proofs.Common.{◌++◌, length, flat_map, sym, ap, arith}
use Rattle.std.specs.Fmt.{decimal}
use Rattle.std.proofs.lemmas.Bool.{eqb-true}
use Rattle.edid_text_lines.specs.Text.{number_text}
use Rattle.edid_text_lines.proofs.Words.{next_of, left_first, left_more, left_none, after_space}
use Rattle.edid_text_lines.proofs.text_to_line.read_numbers.Goals as goal

pub numbers-init : goal.numbers-init
numbers-init c =
    let nil = c.new-numbers.ensures in
    record {
      count = ap length nil;
      left = λ ns t l f b e. left_first c.new-numbers.result.items ns t c.args.text.now nil e;
    }

pub returns-then-is_empty : goal.returns-then-is_empty
returns-then-is_empty c = λ ns t l f b e.
    let i = c.numbers.invariant in
    let x = next_of c.numbers.numbers.items ns t c.numbers.rest.now c.numbers._i c.args.count (i.left ns t l f b e) i.count c.numbers-test.true l f b in
    let none = eqb-true (length c.numbers.rest.now) 0 (sym c.if-is_empty.ensures) in
    let len = ap length x.spelled in
    omega (arith, len, none)

pub returns-in_default : goal.returns-in_default
returns-in_default c = λ ns t l f b e.
    let i = c.numbers.invariant in
    let x = next_of c.numbers.numbers.items ns t c.numbers.rest.now c.numbers._i c.args.count (i.left ns t l f b e) i.count c.numbers-test.true l f b in
    let word = c.next_word.ensures (decimal x.m) (flat_map number_text x.ms ++ t) x.solid x.begins (after_space c.numbers.rest.now _ x.spelled) in
    let none = c.in_default.ensures x.m x.fits (sym word.0) in
    cc

pub numbers-preserved : goal.numbers-preserved
numbers-preserved c =
    let i = c.numbers.invariant in
    let len = c.push.ensures.len in
    record {
      count = let n = i.count in omega (arith, len, n);
      left = λ ns t l f b e.
          let x = next_of c.numbers.numbers.items ns t c.numbers.rest.now c.numbers._i c.args.count (i.left ns t l f b e) i.count c.numbers-test.true l f b in
          let word = c.next_word.ensures (decimal x.m) (flat_map number_text x.ms ++ t) x.solid x.begins (after_space c.numbers.rest.now _ x.spelled) in
          let some = c.in-Some.ensures x.m x.fits (sym word.0) in
          left_more c.numbers.numbers.items c.push.new.self.items ns t c.numbers.rest.now c.next_word.result.1.now c.in-Some.number x (cc) word.1 c.push.ensures.items;
    }

pub returns : goal.returns
returns c = λ ns t l f b e.
    let i = c.numbers.invariant in
    left_none c.numbers.numbers.items ns t c.numbers.rest.now c.numbers._i c.args.count (i.left ns t l f b e) i.count (omega arith) l

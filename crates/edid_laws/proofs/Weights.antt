-- Bits of the bytes of an HDMI block, each a weight where it is set.
use Rattle.std.proofs.Common.{◌≡◌, ℕ, ◌+◌, ◌*◌, ◌/◌, ◌%◌, ◌≤◌, ◌==◌, Bool, true, false, refl, ◌∙◌, ap, arith}
use Rattle.edid_layout.specs.HdmiBlock.{has_bit}
use Rattle.edid_spelling.specs.Hdmi.{weight}

pub weighs : (b : Bool) (n : ℕ) → weight b n ≡ n * weight b 1
weighs true n = omega arith
weighs false n = omega arith

pub light : (b : Bool) → weight b 1 ≤ 1
light true = omega arith
light false = omega arith

pub is_one : (b : Bool) → (weight b 1 == 1) ≡ b
is_one true = refl
is_one false = refl

-- byte 6
pub record Flags (v : ℕ) (a b c d e f : Bool) : Type 0 where
  pub ai : has_bit v 128 ≡ a
  pub deep : v / 16 % 8 ≡ weight b 4 + weight c 2 + weight d 1
  pub deep_444 : has_bit v 8 ≡ e
  pub reserved : v / 2 % 4 * 2 ≡ 0
  pub dual : has_bit v 1 ≡ f

pub flags : (a b c d e f : Bool) → Flags (weight a 128 + weight b 64 + weight c 32 + weight d 16 + weight e 8 + weight f 1) a b c d e f
unfolding has_bit
flags a b c d e f =
    let v = weight a 128 + weight b 64 + weight c 32 + weight d 16 + weight e 8 + weight f 1 in
    let wa = weighs a 128 in
    let wb = weighs b 64 in
    let wc = weighs c 32 in
    let wd = weighs d 16 in
    let we = weighs e 8 in
    let xb = weighs b 4 in
    let xc = weighs c 2 in
    let la = light a in
    let lb = light b in
    let lc = light c in
    let ld = light d in
    let le = light e in
    let lf = light f in
    let top : v / 128 % 2 ≡ weight a 1 = omega arith in
    let middle : v / 8 % 2 ≡ weight e 1 = omega arith in
    let low : v / 1 % 2 ≡ weight f 1 = omega arith in
    record {
      ai = ap (λ x. x == 1) top ∙ is_one a;
      deep = omega arith;
      deep_444 = ap (λ x. x == 1) middle ∙ is_one e;
      reserved = omega arith;
      dual = ap (λ x. x == 1) low ∙ is_one f;
    }

-- byte 8
pub record Presence (v : ℕ) (l i x : Bool) (n : ℕ) : Type 0 where
  pub latencies : has_bit v 128 ≡ l
  pub interlaced : has_bit v 64 ≡ i
  pub video : has_bit v 32 ≡ x
  pub contents : v % 32 ≡ n
  pub first_place : v / 128 % 2 ≡ weight l 1
  pub second_place : v / 64 % 2 ≡ weight i 1

pub presence_read : (l i x : Bool) (n : ℕ) → n ≤ 15 → Presence (weight l 128 + weight i 64 + weight x 32 + n) l i x n
unfolding has_bit
presence_read l i x n small =
    let v = weight l 128 + weight i 64 + weight x 32 + n in
    let wl = weighs l 128 in
    let wi = weighs i 64 in
    let wx = weighs x 32 in
    let ll = light l in
    let li = light i in
    let lx = light x in
    let first : v / 128 % 2 ≡ weight l 1 = omega arith in
    let second : v / 64 % 2 ≡ weight i 1 = omega arith in
    let third : v / 32 % 2 ≡ weight x 1 = omega arith in
    record {
      latencies = ap (λ y. y == 1) first ∙ is_one l;
      interlaced = ap (λ y. y == 1) second ∙ is_one i;
      video = ap (λ y. y == 1) third ∙ is_one x;
      contents = omega arith;
      first_place = first;
      second_place = second;
    }

-- the types of content
pub few_contents : (a b c d : Bool) → weight a 8 + weight b 4 + weight c 2 + weight d 1 ≤ 15
few_contents a b c d =
    let wa = weighs a 8 in
    let wb = weighs b 4 in
    let wc = weighs c 2 in
    let la = light a in
    let lb = light b in
    let lc = light c in
    let ld = light d in
    omega arith

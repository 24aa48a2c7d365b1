-- `tp_lent::ranges::shift` meets its contract: the array holds the words, and then their new places do. Assumes nothing.
use Prim.Native.Nat.{ℕ, ◌+◌}
use mathlib.Core.Path.{◌≡◌, sym, ap, ◌∙◌}
use mathlib.Core.List.{List}
use native.Mathlib.Numerals.{add-one}
use native.Mathlib.Omega.{arith}
use lib.ListN.{take, drop, set, get_or}
use lib.Seq.{paste, paste-suc}
use Rattle.tp_lent.proofs.PlaceLaws.{paste_part}
use Rattle.tp_lent.proofs.ranges.shift.Goals as goal

pub loop-j-preserved : goal.loop-j-preserved
loop-j-preserved c =
    let part = c.loop-i.part in
    ap (λ (l : List ℕ). set l (c.args.to + c.loop-j.j) (get_or part c.loop-j.j 0)) c.loop-j.invariant
    ∙ paste-suc c.args.words.now c.args.to part c.loop-j.j 0 (omega arith) (omega arith)
    ∙ ap (paste c.args.words.now c.args.to part) (sym (add-one c.loop-j.j))

pub returns : goal.returns
returns c =
    let part = c.loop-i.part in
    let whole : c.loop-i.i ≡ c.args.many = omega arith in
    let all : c.loop-j.j ≡ c.args.many = omega arith in
    c.loop-j.invariant
    ∙ ap (paste c.args.words.now c.args.to part) all
    ∙ paste_part c.args.words.now part c.args.to c.args.from c.args.many (omega arith) (ap (λ (n : ℕ). take n part) (sym whole) ∙ c.loop-i.invariant.0 ∙ ap (λ (n : ℕ). take n (drop c.args.from c.args.words.now)) whole)

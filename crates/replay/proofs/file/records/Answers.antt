-- `replay::file::records` meets its contract: what came begins with the name, and has the number. Assumes nothing.
use mathlib.Core.Path.{◌≡◌, sym, ◌∙◌, subst}
use mathlib.Core.List.{List}
use Prim.Native.Nat.{ℕ}
use native.Mathlib.Omega.{arith}
use lib.ListN.{length, take, drop}
use Rattle.std.specs.Io.KnownBytes.{Consumes}
use Rattle.numbers.proofs.ByteLaws.{at32_drop}
use Rattle.replay.proofs.Laws.{begins, begins_came}
use Rattle.replay.proofs.file.records.Goals as goal

pub returns : goal.returns
returns g c =
    let eight : length c.args.name ≡ 8 = omega arith in
    let came : List ℕ = take c.fill-came.result c.fill-came.new.buf in
    let name = begins c.args.name c.fill-came.new.buf 8 eight (sym c.starts_with.ensures.value ∙ c.if-not-starts_with.false) in
    record {
      begins = (
        c.fill-came.result,
        drop 8 came,
        subst (Consumes _ _) (sym (begins_came c.fill-came.result c.args.name c.fill-came.new.buf 8 eight name)) c.fill-came.ensures.bytes,
        c.number.ensures ∙ sym (at32_drop came 8),
      );
      told = (came, c.fill-came.ensures.bytes, c.number.ensures);
    }

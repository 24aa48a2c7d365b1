-- `intake::fill` ends, and what stands in front of the buffer is what the reader gave: what one more read gave stands behind what came before.
use Rattle.std.proofs.Common.{◌≡◌, ℕ, ◌+◌, ◌≤◌, List, ◌++◌, rules, length, take, sym, ap, ◌∙◌, subst, length-take-le}
use Rattle.std.specs.Io.KnownBytes.{Consumes}
use Rattle.std.proofs.KnownBytes.{Consumes-trans}
use borrow.Rule.Slice.PartMut.{put_mid, post_of}
use lib.Seq.{take-append-add, take-append-le}
use Rattle.intake.proofs.fill.Goals as goal

joined : (a k n : ℕ) (xs ys : List ℕ) → a ≤ length xs → n ≤ length ys → take a xs ++ take n ys ≡ take (a + n) (put_mid a k xs ys)
joined a k n xs ys within fits =
    subst (λ m. take a xs ++ take n ys ≡ take (m + n) (put_mid a k xs ys)) (length-take-le a xs within)
    (sym (take-append-add (take a xs) (ys ++ post_of a k xs) n ∙ ap (λ l. take a xs ++ l) (take-append-le n ys (post_of a k xs) fits)))

pub loop-done-preserved : goal.loop-done-preserved
loop-done-preserved g c =
    let (within, front) = c.loop-done.invariant in
    let read = c.in-Ok-1-to-max.ensures in (
      search rules,
      subst (Consumes _ _) (joined c.loop-done.done _ c.in-Ok-1-to-max.n c.loop-done.buf c.read.new.buf within read.bound.0) (Consumes-trans _ _ _ _ _ front read.bytes.0),
    )

-- `tp_pieces::segment` meets its contract: three bytes of the frame are the piece's own. Assumes nothing.
use Prim.Native.Nat.{ℕ, ◌+◌, ◌/◌}
use mathlib.Core.Path.{ap₂, ◌∙◌}
use mathlib.Core.List.{List}
use lib.ListN.{take}
use native.Mathlib.Omega.{arith}
use Rattle.tp_pieces.specs.Pieces.{size}
use Rattle.tp_pieces.proofs.PieceLaws.{frame, framed}
use Rattle.tp_pieces.proofs.segment.Goals as goal

pub returns : goal.returns
returns c =
    let piece = c.args.piece in
    ap₂ {C = List ℕ} (λ (n low : ℕ). take (20 + size piece) (frame (12 + n) (piece.offset / 256) low)) c.size.ensures c.low_byte.ensures
    ∙ framed (size piece) piece.more piece.offset (omega arith) (omega arith)

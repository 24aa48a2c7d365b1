-- `tp::viaductle_begin` meets its contract. Assumes nothing.
use Rattle.std.proofs.Common.{rules}
use native.Mathlib.Omega.{arith}
use Rattle.hub.proofs.TpLaws.{begins_few, begins}
use Rattle.hub.proofs.tp.viaductle_begin.Goals as goal

pub returns-then-words-lt-WORDS : goal.returns-then-words-lt-WORDS
returns-then-words-lt-WORDS c = begins_few _ _ _ c.from.ensures c.if-words-lt-WORDS.true

pub returns : goal.returns
returns c = begins c.args.words.now c.args.limit c.begin-step.result _ _ c.begin-step.ensures (omega arith) c.put.ensures (search rules)

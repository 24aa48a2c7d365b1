-- Any two outcomes that a promise of an exported function allows are the same: answers, table, words and buffer. Where a promise is one equation
-- for the answer (`viaductle_parts`, `lookup`, `next_option`, `next_of_run`, `string`, `next_item`, `read_option`, `read_entry`, `next_entry`, `complete`)
-- it is `same`. Assumes nothing.
use Prim.Native.Nat.{ℕ}
use mathlib.Core.Path.{◌≡◌, sym, ◌∙◌}
use mathlib.Core.List.{List}
use Rattle.numbers.specs.Answers as paper
use Rattle.sd_format.specs.Settings.{Settings}
use Rattle.sd_format.specs.Payload.{Reading}
use Rattle.hub.specs.declared.answers.Answer.{Answer}
use Rattle.hub.specs.Tp.{Begins, Consumes, Takes, Clears}
use Rattle.hub.specs.Options.{Indexes}
use Rattle.hub.specs.Payload.{Reads}

pub same : {A : Type 0} {r q x : A} → r ≡ x → q ≡ x → r ≡ q
same a b = a ∙ sym b

-- `viaductle_read`, `viaductle_read_message`
pub read_only : (x : paper.Answer Reading) (tab : List ℕ) (r q : Answer) (t u : List ℕ) → Reads x tab r t → Reads x tab q u → (r ≡ q) × (t ≡ u)
read_only x tab r q t u a b = (same a.answers b.answers, same a.slots b.slots)

pub index_only : (g : Settings) (s tab : List ℕ) (r q : Answer) (t u : List ℕ) → Indexes g s tab r t → Indexes g s tab q u → (r ≡ q) × (t ≡ u)
index_only g s tab r q t u a b = (same a.answers b.answers, same a.slots b.slots)

pub begin_only : (ws : List ℕ) (limit : ℕ) (r q : Answer) (v w : List ℕ) → Begins ws limit r v → Begins ws limit q w → (r ≡ q) × (v ≡ w)
begin_only ws limit r q v w a b = (same a.answers b.answers, same a.words b.words)

pub consume_only : (ws seg buf : List ℕ) (r q : Answer) (v w c d : List ℕ) → Consumes ws seg buf r v c → Consumes ws seg buf q w d → (r ≡ q) × (v ≡ w) × (c ≡ d)
consume_only ws seg buf r q v w c d a b = (same a.answers b.answers, same a.words b.words, same a.buffer b.buffer)

pub take_only : (ws buf : List ℕ) (r q : Answer) (c d : List ℕ) → Takes ws buf r c → Takes ws buf q d → (r ≡ q) × (c ≡ d)
take_only ws buf r q c d a b = (same a.answers b.answers, same a.buffer b.buffer)

pub clear_only : (ws : List ℕ) (r q : Answer) (v w : List ℕ) → Clears ws r v → Clears ws q w → (r ≡ q) × (v ≡ w)
clear_only ws r q v w a b = (same a.answers b.answers, same a.words b.words)

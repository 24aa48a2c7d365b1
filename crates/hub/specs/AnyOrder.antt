-- The order in which segments come does not matter to what C calls (tp_machine, specs/AnyOrder.antt). Assumes nothing: these are definitions.
use Rattle.std.specs.Prelude.{ℕ, ◌+◌, ◌≤◌, ◌≡◌, List, [], ◌∷◌, ◌↔◌, length, take}
use Rattle.tp_machine.specs.Meaning.{Good}
use Rattle.tp_machine.specs.AnyOrder.{Suited, Feed, NoneRefused, EachFed}
use Rattle.tp_words.specs.Words.{size, state_of}
use Rattle.hub.specs.declared.answers.Answer.{Answer}
use Rattle.hub.specs.Answers.{row}
use Rattle.hub.specs.Tp.{Begins, completes, Takes, Clears, Comes, none, next}

-- each viaductle_consume answered 0
abbrev pub AllZero : {ws buf ws' buf' : List ℕ} {segs : List (List ℕ)} {r r' : Answer} → Comes ws buf r segs ws' buf' r' → Type 0
AllZero none = Unit {0}
AllZero (next {q = q} call more) = (q ≡ row 0 []) × AllZero more

-- words that hold a fresh stream of a limit, and the answer of the call that made it: it was begun in them, or they held a well-formed one of that
-- limit and were cleared
pub data Fresh (limit : ℕ) : Answer → List ℕ → Type 0 where
  begun : {lent words : List ℕ} {r : Answer} → size ≤ length lent → Begins lent limit r words → Fresh limit r words
  cleared : {held words : List ℕ} {r : Answer} → Good (state_of held) → (state_of held).limit ≡ limit → Clears held r words → Fresh limit r words

-- segments come to it: what words and buffer then hold
pub record FedTo (f : Feed) (ws buf : List ℕ) : Type 0 where
  pub first : Answer
  pub words : List ℕ
  pub fresh : Fresh f.limit first words
  pub answer : Answer
  pub comes : Comes words f.buffer first f.segments ws buf answer

-- two streams: both are complete or neither is, and when complete viaductle_take tells the same length, and the bytes in front are equal
pub record SameReports (ws vs b c : List ℕ) : Type 0 where
  pub both_or_neither : completes ws ≡ completes vs
  pub equal : completes ws ≡ row 0 (1 ∷ []) → (r q : Answer) (m n : List ℕ) → Takes ws b r m → Takes vs c q n
      → (end : ℕ) × (r ≡ row 0 ((16 + end) ∷ [])) × (q ≡ row 0 ((16 + end) ∷ [])) × (take (16 + end) m ≡ take (16 + end) n)

pub record AnyOrder : Type 0 where
  -- no segment is refused exactly where each call answers 0
  pub none_refused : (f : Feed) {ws b : List ℕ} (k : FedTo f ws b) → AllZero k.comes ↔ NoneRefused f
  pub same_reports : (f g : Feed) → Suited f.segments → EachFed f g → {ws vs b c : List ℕ} → FedTo f ws b → FedTo g vs c → SameReports ws vs b c

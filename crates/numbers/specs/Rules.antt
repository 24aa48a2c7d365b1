-- Rules in words, in their order: the first whose condition holds refuses, and where none holds there is an acceptance. An answer that follows
-- its rules is refused by no other number, with no other values and in no other order. Assumes nothing: these are definitions.
use Rattle.std.specs.Prelude.{◌≡◌, ◌↔◌, ◌⊎◌}
use Rattle.numbers.specs.Refusals.{Refusal}
use Rattle.numbers.specs.Answers.{Answer, accepted, refused}

infixr 1 ◌if◌else◌ part◌else◌ ◌then◌
pub data Rules : Type 1 where
  accept : Rules
  -- this refusal, if the condition holds
  ◌if◌else◌ : Refusal → Type 0 → Rules → Rules
  -- the refusals of a part that has rules of its own
  part◌else◌ : (Refusal → Type 0) → Rules → Rules

-- the one rules, and the others behind them
abbrev pub ◌then◌ : Rules → Rules → Rules
◌then◌ accept later = later
◌then◌ (r if P else rules) later = r if P else (rules then later)
◌then◌ (part P else rules) later = part P else (rules then later)

-- the first rule whose condition holds gives this refusal
abbrev pub Refuses : Rules → Refusal → Type 0
Refuses accept r = ⊥
Refuses (q if P else later) r = (P × (q ≡ r)) ⊎ (¬ P × Refuses later r)
Refuses (part P else later) r = P r ⊎ (((q : Refusal) → ¬ P q) × Refuses later r)

-- no rule's condition holds
abbrev pub Accepts : Rules → Type 0
Accepts accept = Unit {0}
Accepts (q if P else later) = ¬ P × Accepts later
Accepts (part P else later) = ((q : Refusal) → ¬ P q) × Accepts later

-- an answer is refused exactly as the rules say, and accepted exactly where they accept
pub record Follows {A : Type 0} (a : Answer A) (rules : Rules) : Type 0 where
  pub refuses : (r : Refusal) → (a ≡ refused r) ↔ Refuses rules r
  pub accepts : ((x : A) × (a ≡ accepted x)) ↔ Accepts rules

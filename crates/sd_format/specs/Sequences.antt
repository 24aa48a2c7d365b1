-- Parts that stand one after the other and are read from the front: all of them, where each starts, the one at a place, and a cursor that
-- hands them out. Options and entries are both read so. Assumes nothing: these are definitions.
use Rattle.std.specs.Prelude.{ℕ, zero, suc, ◌+◌, ◌-◌, ◌≤◌, ◌≡◌, List, [], ◌∷◌, ◌++◌, length, drop, leb}
use Rattle.numbers.specs.Refusals.{Refusal, moved, nothing_there}
use Rattle.numbers.specs.Answers.{Answer, accepted, refused, Verdict, pass, ◌>>=◌, ◌>>◌, refuse◌when◌else◌, further, All}

-- `read` reads one part from the front of some bytes, and `size` is how many it takes
module _ {A : Type 0} (read : List ℕ → Answer A) (size : A → ℕ) where
  -- all parts of `s` but its first `skip` bytes, which belong to a part that was read already
  unfoldable pub all_from : List ℕ → ℕ → Answer (List A)
  all_from [] skip = accepted []
  all_from (b ∷ s) (suc skip) = all_from s skip
  all_from (b ∷ s) zero =
      read (b ∷ s) >>= λ a.
      all_from s (size a - 1) >>= λ later.
      accepted (a ∷ later)

  abbrev pub all : List ℕ → Answer (List A)
  all s = all_from s 0

-- what a cursor at place `at` answers: 20 with no bytes left, otherwise as the reading of one does
unfoldable pub next_at : {A : Type 0} → (List ℕ → Answer A) → List ℕ → ℕ → Answer A
next_at read s at = refuse nothing_there when leb (length s) at else read (drop at s)

-- where a cursor stands after it handed out `a`
abbrev pub behind : {A : Type 0} → (A → ℕ) → A → ℕ → ℕ
behind size a at = at + size a

-- where a cursor stands by what it answered: it moves over what it handed out, and a refusal leaves it where it was
abbrev pub stands : {A C : Type 0} → (A → C → C) → Answer A → C → C
stands move (accepted a) c = move a c
stands move (refused r) c = c

-- where each part starts, the first at `at`
unfoldable pub starts : {A : Type 0} → (A → ℕ) → ℕ → List A → List ℕ
starts size at [] = []
starts size at (a ∷ later) = at ∷ starts size (at + size a) later

-- how many bytes parts take
unfoldable pub total : {A : Type 0} → (A → ℕ) → List A → ℕ
total size [] = 0
total size (a ∷ later) = size a + total size later

-- a test of each part, the first of which starts at `at`: the refusal of the first that is refused, its place counted from where `at` is
unfoldable pub each_from : {A : Type 0} → (A → ℕ) → (A → Verdict) → (at : ℕ) → List A → Verdict
each_from size test at [] = pass
each_from size test at (a ∷ later) = further at (test a) >> each_from size test (at + size a) later

-- the one of number `k`, by counting from the front: 20 at or past the end
unfoldable pub counted : {A : Type 0} → List A → ℕ → Answer A
counted [] k = refused nothing_there
counted (a ∷ later) zero = accepted a
counted (a ∷ later) (suc k) = counted later k

-- A cursor hands out these, one after the other, and then 20. `next` is what it answers, `move` where it stands after handing one out.
pub data HandsOut {C A : Type 0} (next : C → Answer A) (move : A → C → C) : C → List A → Type 0 where
  ended : {c : C} → next c ≡ refused nothing_there → HandsOut next move c []
  gave : {c : C} {a : A} {later : List A} → next c ≡ accepted a → HandsOut next move (move a c) later → HandsOut next move c (a ∷ later)

-- Parts are read one after the other, and the first that is refused ends it.
pub data Stops {A : Type 0} (read : List ℕ → Answer A) (size : A → ℕ) : List ℕ → Refusal → Type 0 where
  this_part : {s : List ℕ} {r : Refusal} → 1 ≤ length s → read s ≡ refused r → Stops read size s r
  later_part : {s : List ℕ} {a : A} {r : Refusal} → 1 ≤ length s → read s ≡ accepted a → Stops read size (drop (size a) s) r → Stops read size s r

-- Parts are tested one after the other, the first of which starts at `at`: those before `one` pass, and it is refused where it starts.
pub record FirstRefused {A : Type 0} (size : A → ℕ) (test : A → Verdict) (at : ℕ) (parts : List A) (r : Refusal) : Type 0 where
  pub before : List A
  pub one : A
  pub behind : List A
  pub alone : Refusal
  pub among : parts ≡ before ++ (one ∷ behind)
  pub passed : All (λ a. test a ≡ pass) before
  pub refused_there : test one ≡ refused alone
  pub place : moved (at + total size before) alone ≡ r

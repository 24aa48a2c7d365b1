-- What is said of the elements of a list, for the theorems. Assumes nothing: these are definitions.
use Rattle.std.specs.Prelude.{ℕ, suc, ◌≡◌, Bool, true, false, cond, List, [], ◌∷◌, ◌++◌, ◌⊎◌}
use Rattle.numbers.specs.Answers.{All}
use Rattle.tp_machine.specs.Ranges.{any}

-- x is one of them
abbrev pub OneOf : {A : Type 0} → A → List A → Type 0
OneOf x [] = ⊥
OneOf x (y ∷ ys) = (x ≡ y) ⊎ OneOf x ys

-- how many of a list pass a test
unfoldable pub counted : {A : Type 0} → (A → Bool) → List A → ℕ
counted f [] = 0
counted f (x ∷ xs) = cond (f x) (suc (counted f xs)) (counted f xs)

-- each two elements, at two places, are so related
abbrev pub Pairwise : {A : Type 0} → (A → A → Type 0) → List A → Type 0
Pairwise R [] = Unit {0}
Pairwise R (x ∷ xs) = All (R x) xs × Pairwise R xs

-- the same elements, each as often, in another order
pub data Rearranged {A : Type 0} : List A → List A → Type 0 where
  nothing : Rearranged [] []
  first : {a : A} {l m : List A} → Rearranged l m → Rearranged (a ∷ l) (a ∷ m)
  swap : {a b : A} {l : List A} → Rearranged (a ∷ b ∷ l) (b ∷ a ∷ l)
  next : {l m n : List A} → Rearranged l m → Rearranged m n → Rearranged l n

-- x is the latest of xs that passes the test: it passes, and none that came behind it does
pub record Latest {A : Type 0} (test : A → Bool) (xs : List A) (x : A) : Type 0 where
  pub before : List A
  pub behind : List A
  pub among : xs ≡ before ++ (x ∷ behind)
  pub passes : test x ≡ true
  pub none : any test behind ≡ false

-- Laws of tests: what each says, both ways, and two of them together. Assumes nothing.
use mathlib.Core.Path.{◌≡◌, refl, sym, ap}
use mathlib.Core.Bool.{Bool, true, false, not, ◌&&◌, ◌||◌, true≢false, false≢true}
use mathlib.Core.Logic.{◌↔◌, ◌≢◌, ◌⊎◌, inl, inr}
use Prim.Native.Nat.{ℕ, ◌≤◌, ◌<◌}
use lib.Dec.{ltb, leb, eqb}
use borrow.Author.Tests.{ltb-true, lt-ltb, leb-true, le-leb, eqb-true, eqb-false, eq-eqb, ne_eqb, not-true}

-- ---- one test

pub below : (a b : ℕ) → (ltb a b ≡ true) ↔ (a < b)
below a b = (ltb-true a b, lt-ltb a b)

pub at_most : (a b : ℕ) → (leb a b ≡ true) ↔ (a ≤ b)
at_most a b = (leb-true a b, le-leb a b)

pub equal : (a b : ℕ) → (eqb a b ≡ true) ↔ (a ≡ b)
equal a b = (eqb-true a b, eq-eqb a b)

pub unequal : (a b : ℕ) → (not (eqb a b) ≡ true) ↔ (a ≢ b)
unequal a b = ((λ e. eqb-false a b (not-true (eqb a b) e)), (λ h. ap not (ne_eqb a b h)))

-- a test that fails just where G holds
pub fails : {G : Type 0} (b : Bool) → ((b ≡ false) ↔ G) → (b ≡ true) ↔ (¬ G)
fails true means = ((λ e g. true≢false (means.1 g)), (λ h. refl))
fails false means = ((λ e. absurd (false≢true e)), (λ h. absurd (h (means.0 refl))))

-- the negation of a test that passes just where G holds
pub lacks : {G : Type 0} (b : Bool) → ((b ≡ true) ↔ G) → (not b ≡ true) ↔ (¬ G)
lacks true means = ((λ e. absurd (false≢true e)), (λ h. absurd (h (means.0 refl))))
lacks false means = ((λ e g. false≢true (means.1 g)), (λ h. refl))

pub same_test : (a b : Bool) → (a ≡ true → b ≡ true) → (b ≡ true → a ≡ true) → a ≡ b
same_test true b f g = sym (f refl)
same_test false true f g = g refl
same_test false false f g = refl

-- ---- two tests

pub or_inv : (a b : Bool) → (a || b) ≡ false → (a ≡ false) × (b ≡ false)
or_inv true b e = absurd (true≢false e)
or_inv false b e = (refl, e)

pub or_cases : (a b : Bool) → (a || b) ≡ true → (a ≡ true) ⊎ (b ≡ true)
or_cases true b e = inl refl
or_cases false b e = inr e

pub neither : (a b : Bool) → a ≡ false → b ≡ false → (a || b) ≡ false
neither a b p q = rw (p, q)

pub or_swap : (a b c : Bool) → (a || (b || c)) ≡ (b || (a || c))
or_swap true true c = refl
or_swap true false c = refl
or_swap false b c = refl

pub and_inv : (a b : Bool) → (a && b) ≡ true → (a ≡ true) × (b ≡ true)
and_inv true b e = (refl, e)
and_inv false b e = absurd (false≢true e)

pub and_fails : (a b : Bool) → (a && b) ≡ false → a ≡ true → b ≡ false
and_fails true b e h = e
and_fails false b e h = absurd (false≢true h)

pub not_both : (a b : Bool) → (a ≡ true → b ≡ false) → (a && b) ≡ false
not_both true b f = f refl
not_both false b f = refl

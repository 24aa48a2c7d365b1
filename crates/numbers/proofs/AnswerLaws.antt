-- Laws of answers: which way a test goes, and what an acceptance says. Assumes nothing.
use mathlib.Core.Path.{◌≡◌, refl, sym, ap}
use mathlib.Core.Bool.{Bool, true, false, not, false≢true}
use Prim.Native.Nat.{ℕ, ◌+◌, ◌<◌}
use mathlib.Core.List.{List, [], ◌∷◌}
use mathlib.Core.Logic.{◌↔◌, ◌⊎◌, inl, inr}
use native.Mathlib.Omega.{arith}
use Rattle.numbers.specs.Refusals.{Place, untold, told, Refusal, ◌at_byte◌, gives, moved_place, moved}
use Rattle.numbers.specs.Answers.{Answer, accepted, refused, Verdict, pass, ◌>>=◌, ◌>>◌, refuse◌when◌else◌, further, given, All, ◌gives◌with◌}

module _ {A : Type 0} where
  pub when_hit : (r : Refusal) (b : Bool) (a : Answer A) → b ≡ true → (refuse r when b else a) ≡ refused r
  unfolding refuse◌when◌else◌
  when_hit r b a e = rw e

  pub when_pass : (r : Refusal) (b : Bool) (a : Answer A) → b ≡ false → (refuse r when b else a) ≡ a
  unfolding refuse◌when◌else◌
  when_pass r b a e = rw e

  pub not_refused {ℓ} : {X : Type ℓ} (r : Refusal) (x : A) → ◌≡◌ {A = Answer A} (refused r) (accepted x) → X
  not_refused r x e = let z : ◌≡◌ {A = ℕ} 0 1 = cc in absurd (omega arith)

  pub accepted_inj : (x y : A) → accepted x ≡ accepted y → x ≡ y
  accepted_inj x y e = cc

  pub refused_inj : (r q : Refusal) → ◌≡◌ {A = Answer A} (refused r) (refused q) → r ≡ q
  refused_inj r q e = cc

  pub when_accepted : (r : Refusal) (b : Bool) (a : Answer A) (x : A) → (refuse r when b else a) ≡ accepted x → (b ≡ false) × (a ≡ accepted x)
  unfolding refuse◌when◌else◌
  when_accepted r true a x e = not_refused r x e
  when_accepted r false a x e = (refl, e)

module _ {A B : Type 0} where
  pub bind_accepted : (m : Answer A) (f : A → Answer B) (y : B) → (m >>= f) ≡ accepted y → (x : A) × (m ≡ accepted x) × (f x ≡ accepted y)
  unfolding ◌>>=◌
  bind_accepted (accepted x) f y e = (x, refl, e)
  bind_accepted (refused r) f y e = not_refused r y e

  pub bind_pass : (m : Answer A) (f : A → Answer B) (x : A) → m ≡ accepted x → (m >>= f) ≡ f x
  unfolding ◌>>=◌
  bind_pass m f x e = rw e

  -- a part that is refused, where nothing is refused behind it
  pub bind_refused : (m : Answer A) (f : A → B) (r : Refusal) → (m >>= λ a. accepted (f a)) ≡ refused r → m ≡ refused r
  unfolding ◌>>=◌
  bind_refused (accepted x) f r e = not_refused r (f x) (sym e)
  bind_refused (refused q) f r e = ap refused (refused_inj {A = B} q r e)

  pub given_accepted : (f : A → B) (m : Answer A) (y : B) → given f m ≡ accepted y → (x : A) × (m ≡ accepted x) × (f x ≡ y)
  unfolding given
  given_accepted f (accepted x) y e = (x, refl, accepted_inj (f x) y e)
  given_accepted f (refused r) y e = not_refused r y e

  pub given_refused : (f : A → B) (m : Answer A) (r : Refusal) → given f m ≡ refused r → m ≡ refused r
  unfolding given
  given_refused f (accepted x) r e = not_refused r (f x) (sym e)
  given_refused f (refused q) r e = ap refused (refused_inj {A = B} q r e)

module _ {B : Type 0} where
  pub then_accepted : (v : Verdict) (a : Answer B) (y : B) → (v >> a) ≡ accepted y → (v ≡ pass) × (a ≡ accepted y)
  unfolding ◌>>◌
  then_accepted (accepted x) a y e = (refl, e)
  then_accepted (refused r) a y e = not_refused r y e

  pub then_pass : (v : Verdict) (a : Answer B) → v ≡ pass → (v >> a) ≡ a
  unfolding ◌>>◌
  then_pass v a e = rw e

-- what a refusal says: it is that of one part, and those before it passed
module _ {A : Type 0} where
  pub when_refused : (r : Refusal) (b : Bool) (a : Answer A) (q : Refusal) → (refuse r when b else a) ≡ refused q → (r ≡ q) ⊎ ((b ≡ false) × (a ≡ refused q))
  unfolding refuse◌when◌else◌
  when_refused r true a q e = inl (refused_inj r q e)
  when_refused r false a q e = inr (refl, e)

  pub then_refused : (v : Verdict) (a : Answer A) (q : Refusal) → (v >> a) ≡ refused q → (v ≡ refused q) ⊎ ((v ≡ pass) × (a ≡ refused q))
  unfolding ◌>>◌
  then_refused (accepted x) a q e = inr (refl, e)
  then_refused (refused r) a q e = inl (ap refused (refused_inj {A = A} r q e))

  pub further_refused : (n : ℕ) (a : Answer A) (q : Refusal) → further n a ≡ refused q → (r : Refusal) × (a ≡ refused r) × (moved n r ≡ q)
  unfolding further
  further_refused n (accepted x) q e = not_refused q x (sym e)
  further_refused n (refused r) q e = (r, refl, refused_inj (moved n r) q e)

module _ {A B : Type 0} where
  pub bind_stopped : (m : Answer A) (f : A → Answer B) (q : Refusal) → (m >>= f) ≡ refused q
      → (m ≡ refused q) ⊎ ((x : A) × (m ≡ accepted x) × (f x ≡ refused q))
  unfolding ◌>>=◌
  bind_stopped (accepted x) f q e = inr (x, refl, e)
  bind_stopped (refused r) f q e = inl (ap refused (refused_inj {A = B} r q e))

-- what gives a number is a refusal, of that number and with those values
module _ {A : Type 0} where
  pub gives_refused : (a : Answer A) (n : ℕ) (vs : List ℕ) → 0 < n → a gives n with vs → (r : Refusal) × (a ≡ refused r) × (r.number ≡ n) × ((gives) r ≡ vs)
  gives_refused (accepted x) n vs some e = let same : 0 ≡ n = cc in absurd (omega arith)
  gives_refused (refused r) n vs some e = (r, refl, cc, cc)

-- a place that is moved
pub moved_there : (r : Refusal) (n p : ℕ) → r.place ≡ told p → moved n r ≡ (r at_byte n + p)
moved_there r n p e = λ i. record { number = r.number; values = r.values; place = moved_place n (e i) }

moved_place_twice : (m n : ℕ) (p : Place) → moved_place m (moved_place n p) ≡ moved_place (m + n) p
moved_place_twice m n untold = refl
moved_place_twice m n (told p) = ap told (omega arith)

pub moved_twice : (m n : ℕ) (r : Refusal) → moved m (moved n r) ≡ moved (m + n) r
moved_twice m n r = λ i. record { number = r.number; values = r.values; place = moved_place_twice m n r.place i }

-- and back
moved_place_one : (n : ℕ) (p q : Place) → moved_place n p ≡ moved_place n q → p ≡ q
moved_place_one n untold untold e = refl
moved_place_one n untold (told q) e = let clash : ◌≡◌ {A = ℕ} 0 1 = cc in absurd (omega arith)
moved_place_one n (told p) untold e = let clash : ◌≡◌ {A = ℕ} 0 1 = cc in absurd (omega arith)
moved_place_one n (told p) (told q) e = let same : n + p ≡ n + q = cc in ap told (omega arith)

moved_one : (n : ℕ) (r q : Refusal) → moved n r ≡ moved n q → r ≡ q
moved_one n r q e =
    let place = moved_place_one n r.place q.place (ap (λ (x : Refusal). x.place) e) in
    λ i. record { number = (e i).number; values = (e i).values; place = place i }

-- where a refusal stands does not touch what is accepted
module _ {A : Type 0} where
  pub further_accepted : (n : ℕ) (a : Answer A) (x : A) → (further n a ≡ accepted x) ↔ (a ≡ accepted x)
  unfolding further
  further_accepted n (accepted y) x = ((λ e. e), (λ e. e))
  further_accepted n (refused r) x = ((λ e. not_refused _ x e), (λ e. not_refused r x e))

  pub further_one : (n : ℕ) (a b : Answer A) → further n a ≡ further n b → a ≡ b
  unfolding further
  further_one n (accepted x) (accepted y) e = e
  further_one n (accepted x) (refused q) e = not_refused _ x (sym e)
  further_one n (refused r) (accepted y) e = not_refused _ y e
  further_one n (refused r) (refused q) e = ap refused (moved_one n r q (refused_inj {A = A} _ _ e))

-- a test, and what comes after it
module _ {A : Type 0} where
  pub test_accepted : (r : Refusal) (b : Bool) (a : Answer A) (x : A) → ((refuse r when not b else a) ≡ accepted x) ↔ ((b ≡ true) × (a ≡ accepted x))
  unfolding refuse◌when◌else◌
  test_accepted r true a x = ((λ e. (refl, e)), (λ h. h.1))
  test_accepted r false a x = ((λ e. not_refused r x e), (λ h. absurd (false≢true h.0)))

-- a test that ends the chain
pub refuse_pass : (r : Refusal) (b : Bool) → ((refuse r when not b else pass) ≡ pass) ↔ (b ≡ true)
refuse_pass r b = ((λ e. ((test_accepted r b pass tt).0 e).0), (λ e. (test_accepted r b pass tt).1 (e, refl)))

-- what each element has
module _ {A : Type 0} (P Q : A → Type 0) where
  pub all_map : ((x : A) → P x → Q x) → (xs : List A) → All P xs → All Q xs
  all_map f [] e = tt
  all_map f (x ∷ xs) e = (f x e.0, all_map f xs e.1)

  pub all_both : (xs : List A) → All P xs → All Q xs → All (λ x. P x × Q x) xs
  all_both [] e f = tt
  all_both (x ∷ xs) e f = ((e.0, f.0), all_both xs e.1 f.1)

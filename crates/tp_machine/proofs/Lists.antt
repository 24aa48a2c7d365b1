-- Laws of what is said of a list's elements, and of lists in another order. Assumes nothing.
use Prim.Native.Nat.{ℕ, zero, suc, ◌≤◌, ◌<◌}
use mathlib.Core.Path.{◌≡◌, refl, sym, ap, subst, ◌∙◌}
use mathlib.Core.Bool.{Bool, true, false, ◌||◌, cond, or-true, false≢true}
use mathlib.Core.List.{List, [], ◌∷◌, ◌++◌, append_assoc}
use mathlib.Core.Logic.{◌⊎◌, inl, inr, ⊎_elim, ◌↔◌, ◌≢◌}
use native.Mathlib.Omega.{arith}
use lib.ListN.{length, take, drop, get_or}
use Rattle.numbers.specs.Answers.{All}
use Rattle.numbers.proofs.AnswerLaws.{all_map, all_both}
use Rattle.numbers.proofs.TestLaws.{neither, or_swap}
pub use Rattle.numbers.proofs.TestLaws.{or_inv, or_cases, and_inv}
use Rattle.tp_machine.specs.Ranges.{any}
use Rattle.tp_machine.specs.Lists.{OneOf, counted, Pairwise, Rearranged, nothing, first, swap, next, Latest}

-- ---- each element
module _ {A : Type 0} (P : A → Type 0) where
  -- each of two lists, one behind the other
  all_append : (xs ys : List A) → All P xs → All P ys → All P (xs ++ ys)
  all_append [] ys e f = f
  all_append (x ∷ xs) ys e f = (e.0, all_append xs ys e.1 f)

  pub all_parts : (xs ys : List A) → All P (xs ++ ys) → All P xs × All P ys
  all_parts [] ys e = (tt, e)
  all_parts (x ∷ xs) ys e = let later = all_parts xs ys e.1 in ((e.0, later.0), later.1)

  pub all_at : (xs : List A) (i : ℕ) (d : A) → i < length xs → All P xs → P (get_or xs i d)
  all_at [] i d h e = absurd (omega arith)
  all_at (x ∷ xs) zero d h e = e.0
  all_at (x ∷ xs) (suc i) d h e = all_at xs i d (omega arith) e.1

  pub all_moved : {l m : List A} → Rearranged l m → All P l → All P m
  all_moved nothing e = e
  all_moved (first r) e = (e.0, all_moved r e.1)
  all_moved swap e = (e.1.0, (e.0, e.1.1))
  all_moved (next r s) e = all_moved s (all_moved r e)

-- ---- each two
module _ {A : Type 0} (R : A → A → Type 0) where
  -- of two lists, one behind the other
  pub pairwise_append : (xs ys : List A) → Pairwise R xs → All (λ x. All (R x) ys) xs → Pairwise R ys → Pairwise R (xs ++ ys)
  pairwise_append [] ys p a q = q
  pairwise_append (x ∷ xs) ys p a q = (all_append (R x) xs ys p.0 a.0, pairwise_append xs ys p.1 a.1 q)

  pub pairwise_parts : (xs ys : List A) → Pairwise R (xs ++ ys) → Pairwise R xs × All (λ x. All (R x) ys) xs × Pairwise R ys
  pairwise_parts [] ys p = (tt, tt, p)
  pairwise_parts (x ∷ xs) ys p =
      let here = all_parts (R x) xs ys p.0 in
      let later = pairwise_parts xs ys p.1 in
      ((here.0, later.0), (here.1, later.1), later.2)

  -- what two that are so related have, where each has P
  pub pairwise_map : (S : A → A → Type 0) (P : A → Type 0) → ((x y : A) → P x → P y → R x y → S x y) → (xs : List A) → All P xs → Pairwise R xs → Pairwise S xs
  pairwise_map S P f [] e p = tt
  pairwise_map S P f (x ∷ xs) e p =
      (all_map (λ y. P y × R x y) (S x) (λ y h. f x y e.0 h.0 h.1) xs (all_both P (R x) xs e.1 p.0), pairwise_map S P f xs e.1 p.1)

  -- in another order, where they are so related both ways
  pub pairwise_moved : ((x y : A) → R x y → R y x) → {l m : List A} → Rearranged l m → Pairwise R l → Pairwise R m
  pairwise_moved both nothing h = h
  pairwise_moved both (first {a} r) h = (all_moved (R a) r h.0, pairwise_moved both r h.1)
  pairwise_moved both (swap {a} {b}) h = ((both a b h.0.0, h.1.0), (h.0.1, h.1.1))
  pairwise_moved both (next r s) h = pairwise_moved both s (pairwise_moved both r h)

-- ---- one element
module _ {A : Type 0} (f : A → Bool) where
  pub any_all : (xs : List A) → any f xs ≡ false → All (λ x. f x ≡ false) xs
  unfolding any
  any_all [] e = tt
  any_all (x ∷ xs) e = let o = or_inv (f x) (any f xs) e in (o.0, any_all xs o.1)

  pub all_any : (xs : List A) → All (λ x. f x ≡ false) xs → any f xs ≡ false
  unfolding any
  all_any [] e = refl
  all_any (x ∷ xs) e = neither (f x) (any f xs) e.0 (all_any xs e.1)

  pub any_append : (xs : List A) (g : A) → any f (xs ++ (g ∷ [])) ≡ (f g || any f xs)
  unfolding any
  any_append [] g = refl
  any_append (x ∷ xs) g = ap (◌||◌ (f x)) (any_append xs g) ∙ or_swap (f x) (f g) (any f xs)

  pub any_moved : {l m : List A} → Rearranged l m → any f l ≡ any f m
  unfolding any
  any_moved nothing = refl
  any_moved (first {a} r) = ap (◌||◌ (f a)) (any_moved r)
  any_moved (swap {a} {b} {l}) = or_swap (f a) (f b) (any f l)
  any_moved (next r s) = any_moved r ∙ any_moved s

-- ---- how many pass a test
module _ {A : Type 0} (f : A → Bool) where
  counted_none : (xs : List A) → All (λ x. f x ≡ false) xs → counted f xs ≡ 0
  unfolding counted
  counted_none [] e = refl
  counted_none (x ∷ xs) e = rw e.0 (counted_none xs e.1)

  pub counted_upto : (xs : List A) → counted f xs ≤ length xs
  unfolding counted
  counted_upto [] = omega arith
  counted_upto (x ∷ xs) = go (f x) (counted_upto xs)
    where
      go : (t : Bool) → counted f xs ≤ length xs → cond t (suc (counted f xs)) (counted f xs) ≤ suc (length xs)
      go true h = omega arith
      go false h = omega arith

  -- where none passes behind one that does not, those that pass stand in front
  pub counted_parts : (xs : List A) → Pairwise (λ x y. f x ≡ false → f y ≡ false) xs → All (λ x. f x ≡ true) (take (counted f xs) xs) × All (λ x. f x ≡ false) (drop (counted f xs) xs)
  unfolding counted
  counted_parts [] p = (tt, tt)
  counted_parts (x ∷ xs) p = go (f x) refl (counted_parts xs p.1)
    where
      Parts : ℕ → List A → Type 0
      Parts n l = All (λ x. f x ≡ true) (take n l) × All (λ x. f x ≡ false) (drop n l)

      go : (t : Bool) → f x ≡ t → Parts (counted f xs) xs → Parts (cond t (suc (counted f xs)) (counted f xs)) (x ∷ xs)
      go true e later = ((e, later.0), later.1)
      go false e later = let none = all_map (λ y. f x ≡ false → f y ≡ false) (λ y. f y ≡ false) (λ y h. h e) xs p.0 in rw (counted_none xs none) (tt, (e, none))

-- a test that passes where another does
pub counted_more : {A : Type 0} (f g : A → Bool) (xs : List A) → All (λ x. f x ≡ true → g x ≡ true) xs → counted f xs ≤ counted g xs
unfolding counted
counted_more f g [] e = omega arith
counted_more f g (x ∷ xs) e = go (f x) (g x) e.0 (counted_more f g xs e.1)
  where
    go : (s t : Bool) → (s ≡ true → t ≡ true) → counted f xs ≤ counted g xs → cond s (suc (counted f xs)) (counted f xs) ≤ cond t (suc (counted g xs)) (counted g xs)
    go true true i h = omega arith
    go true false i h = absurd (false≢true (i refl))
    go false true i h = omega arith
    go false false i h = h

-- where of each two that pass one does not, one at most passes
pub counted_once : {A : Type 0} (f : A → Bool) (xs : List A) → Pairwise (λ x y. f x ≡ true → f y ≡ false) xs → counted f xs ≤ 1
unfolding counted
counted_once f [] p = omega arith
counted_once f (x ∷ xs) p = go (f x) refl (counted_once f xs p.1)
  where
    go : (t : Bool) → f x ≡ t → counted f xs ≤ 1 → cond t (suc (counted f xs)) (counted f xs) ≤ 1
    go true e later = omega (arith, counted_none f xs (all_map (λ y. f x ≡ true → f y ≡ false) (λ y. f y ≡ false) (λ y h. h e) xs p.0))
    go false e later = later

-- ---- another order
module _ {A : Type 0} where
  pub unmoved : (l : List A) → Rearranged l l
  unmoved [] = nothing
  unmoved (x ∷ l) = first (unmoved l)

  pub moved_back : {l m : List A} → Rearranged l m → Rearranged m l
  moved_back nothing = nothing
  moved_back (first r) = first (moved_back r)
  moved_back swap = swap
  moved_back (next r s) = next (moved_back s) (moved_back r)

  pub length_moved : {l m : List A} → Rearranged l m → length l ≡ length m
  length_moved nothing = refl
  length_moved (first r) = ap suc (length_moved r)
  length_moved swap = refl
  length_moved (next r s) = length_moved r ∙ length_moved s

  none_moved : {l m : List A} → Rearranged l m → l ≡ [] → m ≡ []
  none_moved nothing e = refl
  none_moved (first r) e = let z : ◌≡◌ {A = ℕ} 0 1 = cc in absurd (omega arith)
  none_moved swap e = let z : ◌≡◌ {A = ℕ} 0 1 = cc in absurd (omega arith)
  none_moved (next r s) e = none_moved s (none_moved r e)

  -- a list of one has no other order
  pub one_moved : {l m : List A} → Rearranged l m → (x : A) → l ≡ x ∷ [] → m ≡ x ∷ []
  one_moved nothing x e = e
  one_moved (first {a} {l} {m} r) x e =
      let h : l ≡ [] = cc in
      let k : m ≡ [] = none_moved r h in
      cc
  one_moved (swap {a} {b} {l}) x e =
      let h : ◌≡◌ {A = List A} (b ∷ l) [] = cc in
      let z : ◌≡◌ {A = ℕ} 0 1 = cc in
      absurd (omega arith)
  one_moved (next r s) x e = one_moved s x (one_moved r x e)

-- ---- one of the elements
module _ {A : Type 0} where
  pub one_of_moved : {l m : List A} (x : A) → Rearranged l m → OneOf x l → OneOf x m
  one_of_moved x nothing o = o
  one_of_moved x (first r) (inl e) = inl e
  one_of_moved x (first r) (inr o) = inr (one_of_moved x r o)
  one_of_moved x swap (inl e) = inr (inl e)
  one_of_moved x swap (inr (inl e)) = inl e
  one_of_moved x swap (inr (inr o)) = inr (inr o)
  one_of_moved x (next r s) o = one_of_moved x s (one_of_moved x r o)

  -- each is one of them
  pub each_one : (xs : List A) → All (λ x. OneOf x xs) xs
  each_one [] = tt
  each_one (x ∷ xs) = (inl refl, all_map (λ y. OneOf y xs) (λ y. OneOf y (x ∷ xs)) (λ y o. inr o) xs (each_one xs))

  -- it has what each of them has
  pub one_has : (P : A → Type 0) (xs : List A) (x : A) → All P xs → OneOf x xs → P x
  one_has P [] x a o = absurd o
  one_has P (y ∷ xs) x a (inl e) = subst P (sym e) a.0
  one_has P (y ∷ xs) x a (inr o) = one_has P xs x a.1 o

  -- where it passes a test, some one of them does
  pub one_passes : (f : A → Bool) (xs : List A) (x : A) → OneOf x xs → f x ≡ true → any f xs ≡ true
  one_passes f xs x o p = go (any f xs) refl
    where
      go : (t : Bool) → any f xs ≡ t → t ≡ true
      go true e = refl
      go false e = absurd (false≢true (sym (one_has (λ y. f y ≡ false) xs x (any_all f xs e) o) ∙ p))

  -- two of them are the same one, or are related one way or the other
  pub two_of : (R : A → A → Type 0) (xs : List A) (x y : A) → Pairwise R xs → OneOf x xs → OneOf y xs → (x ≡ y) ⊎ (R x y ⊎ R y x)
  two_of R [] x y p o k = absurd o
  two_of R (z ∷ xs) x y p (inl e) (inl f) = inl (e ∙ sym f)
  two_of R (z ∷ xs) x y p (inl e) (inr k) = inr (inl (subst (λ (w : A). R w y) (sym e) (one_has (R z) xs y p.0 k)))
  two_of R (z ∷ xs) x y p (inr o) (inl f) = inr (inr (subst (λ (w : A). R w x) (sym f) (one_has (R z) xs x p.0 o)))
  two_of R (z ∷ xs) x y p (inr o) (inr k) = two_of R xs x y p.1 o k

  -- it can be brought to the front
  to_front : (x : A) (ys : List A) → OneOf x ys → (zs : List A) × Rearranged ys (x ∷ zs)
  to_front x [] o = absurd o
  to_front x (y ∷ ys) (inl e) = (ys, subst (λ (z : A). Rearranged (y ∷ ys) (z ∷ ys)) (sym e) (unmoved (y ∷ ys)))
  to_front x (y ∷ ys) (inr o) = let w = to_front x ys o in (y ∷ w.0, next (first w.1) swap)

  others : (x : A) (xs ys : List A) → All (◌≢◌ x) ys → All (λ y. OneOf y (x ∷ xs)) ys → All (λ y. OneOf y xs) ys
  others x xs [] n o = tt
  others x xs (y ∷ ys) n o = (⊎_elim (λ e. absurd (n.0 (sym e))) (λ k. k) o.0, others x xs ys n.1 o.1)

  -- lists with the same elements, in which no element stands twice, differ only in their order
  pub same_elements : (xs ys : List A) → Pairwise ◌≢◌ xs → Pairwise ◌≢◌ ys → All (λ x. OneOf x ys) xs → All (λ y. OneOf y xs) ys → Rearranged xs ys
  same_elements [] [] p q t b = nothing
  same_elements [] (y ∷ ys) p q t b = absurd b.0
  same_elements (x ∷ xs) ys p q t b =
      let w = to_front x ys t.0 in
      let d = pairwise_moved ◌≢◌ (λ y z n e. n (sym e)) w.1 q in
      let there = all_map (λ y. OneOf y ys) (λ y. OneOf y (x ∷ w.0)) (λ y. one_of_moved y w.1) xs t.1 in
      let back = all_moved (λ y. OneOf y (x ∷ xs)) w.1 b in
      next (first (same_elements xs w.0 p.1 d.1 (others x w.0 xs p.0 there) (others x xs w.0 d.0 back.1))) (moved_back w.1)

-- ---- the same elements, each as often
module _ {A : Type 0} (f : A → Bool) where
  pub counted_moved : {l m : List A} → Rearranged l m → counted f l ≡ counted f m
  unfolding counted
  counted_moved nothing = refl
  counted_moved (first {a} r) = ap (λ (n : ℕ). cond (f a) (suc n) n) (counted_moved r)
  counted_moved (swap {a} {b} {l}) = go (f a) (f b)
    where
      go : (s t : Bool) → cond s (suc (cond t (suc (counted f l)) (counted f l))) (cond t (suc (counted f l)) (counted f l)) ≡ cond t (suc (cond s (suc (counted f l)) (counted f l))) (cond s (suc (counted f l)) (counted f l))
      go true true = refl
      go true false = refl
      go false t = refl
  counted_moved (next r s) = counted_moved r ∙ counted_moved s

-- (`same` tells equal elements)
module _ {A : Type 0} (same : A → A → Bool) (means : (x y : A) → (same x y ≡ true) ↔ (x ≡ y)) where
  abbrev times : A → List A → ℕ
  times x = counted (same x)

  found : (x : A) (ys : List A) → 0 < times x ys → OneOf x ys
  unfolding counted
  found x [] h = absurd (omega arith)
  found x (y ∷ ys) h = go (same x y) refl h (found x ys)
    where
      go : (t : Bool) → same x y ≡ t → 0 < cond t (suc (times x ys)) (times x ys) → (0 < times x ys → OneOf x ys) → OneOf x (y ∷ ys)
      go true e k later = inl ((means x y).0 e)
      go false e k later = inr (later k)

  here : (x : A) (xs : List A) → times x (x ∷ xs) ≡ suc (times x xs)
  unfolding counted
  here x xs = rw ((means x x).1 refl)

  behind : (x y : A) (xs ys : List A) → times x (y ∷ xs) ≡ times x (y ∷ ys) → times x xs ≡ times x ys
  unfolding counted
  behind x y xs ys e = go (same x y) e
    where
      go : (t : Bool) → cond t (suc (times x xs)) (times x xs) ≡ cond t (suc (times x ys)) (times x ys) → times x xs ≡ times x ys
      go true h = omega arith
      go false h = h

  pub as_often : (l m : List A) → ((x : A) → counted (same x) l ≡ counted (same x) m) → Rearranged l m
  unfolding counted
  as_often [] [] h = nothing
  as_often [] (y ∷ m) h = absurd (omega (arith, h y, here y m))
  as_often (x ∷ l) m h =
      let w = to_front x m (found x m (omega (arith, h x, here x l))) in
      let later = as_often l w.0 (λ y. behind y x l w.0 (h y ∙ counted_moved (same y) w.1)) in
      next (first later) (moved_back w.1)

-- ---- the latest element that passes a test
module _ {A : Type 0} (f : A → Bool) where
  pub latest_later : (x : A) (xs : List A) (y : A) → Latest f xs y → Latest f (x ∷ xs) y
  latest_later x xs y l = record { before = x ∷ l.before; behind = l.behind; among = ap (λ (t : List A). x ∷ t) l.among; passes = l.passes; none = l.none }

  -- there is one where one passes
  pub latest_of : (xs : List A) → any f xs ≡ true → (x : A) × Latest f xs x
  unfolding any
  latest_of [] e = absurd (false≢true e)
  latest_of (x ∷ xs) e = go (latest_of xs) (any f xs) refl
    where
      go : (any f xs ≡ true → (y : A) × Latest f xs y) → (t : Bool) → any f xs ≡ t → (y : A) × Latest f (x ∷ xs) y
      go later true h = let w = later h in (w.0, latest_later x xs w.0 w.1)
      go later false h = (x, record { before = []; behind = xs; among = refl; passes = ⊎_elim (λ p. p) (λ p. absurd (false≢true (sym h ∙ p))) (or_cases (f x) (any f xs) e); none = h })

  -- it has what each element has
  pub all_latest : (P : A → Type 0) (xs : List A) (x : A) → Latest f xs x → All P xs → P x
  all_latest P xs x l a = (all_parts P l.before (x ∷ l.behind) (subst (All P) l.among a)).1.0

-- another comes behind: the latest stays so where that one does not pass, else that one is the latest
module _ {A : Type 0} (f : A → Bool) (xs : List A) (y : A) where
  unfoldable pub latest_still : (x : A) → Latest f xs x → f y ≡ false → Latest f (xs ++ (y ∷ [])) x
  latest_still x l n = record {
    before = l.before;
    behind = l.behind ++ (y ∷ []);
    among = ap (λ (t : List A). t ++ (y ∷ [])) l.among ∙ append_assoc l.before (x ∷ l.behind) (y ∷ []);
    passes = l.passes;
    none = any_append f l.behind y ∙ neither (f y) (any f l.behind) n l.none;
  }

  unfoldable pub latest_new : f y ≡ true → Latest f (xs ++ (y ∷ [])) y
  unfolding any
  latest_new p = record { before = xs; behind = []; among = refl; passes = p; none = refl }

-- there is one latest, at one place
module _ {A : Type 0} (f : A → Bool) where
  passed_among : (before : List A) (x : A) (behind : List A) → f x ≡ true → any f (before ++ (x ∷ behind)) ≡ true
  unfolding any
  passed_among [] x behind p = rw p
  passed_among (y ∷ before) x behind p = rw (passed_among before x behind p) (or-true (f y))

  one_split : (b c : List A) (x y : A) (d e : List A) → b ++ (x ∷ d) ≡ c ++ (y ∷ e) → f x ≡ true → f y ≡ true → any f d ≡ false → any f e ≡ false → (b ≡ c) × (x ≡ y) × (d ≡ e)
  one_split [] [] x y d e same p q m n = let a : x ≡ y = cc in let t : d ≡ e = cc in (refl, a, t)
  one_split [] (c ∷ cs) x y d e same p q m n = let t : d ≡ cs ++ (y ∷ e) = cc in absurd (false≢true (sym m ∙ ap (any f) t ∙ passed_among cs y e q))
  one_split (b ∷ bs) [] x y d e same p q m n = let t : bs ++ (x ∷ d) ≡ e = cc in absurd (false≢true (sym n ∙ ap (any f) (sym t) ∙ passed_among bs x d p))
  one_split (b ∷ bs) (c ∷ cs) x y d e same p q m n =
      let heads : b ≡ c = cc in
      let tails : bs ++ (x ∷ d) ≡ cs ++ (y ∷ e) = cc in
      let later = one_split bs cs x y d e tails p q m n in
      (rw (heads, later.0), later.1, later.2)

  pub latest_one : (xs : List A) (x y : A) (l : Latest f xs x) (m : Latest f xs y) → (l.before ≡ m.before) × (x ≡ y) × (l.behind ≡ m.behind)
  latest_one xs x y l m = one_split l.before m.before x y l.behind m.behind (sym l.among ∙ m.among) l.passes m.passes l.none m.none

-- what the latest element that passes gives, else v
unfoldable pub newest : {A B : Type 0} → (A → Bool) → (A → B) → B → List A → B
newest f g v [] = v
newest f g v (x ∷ xs) = newest f g (cond (f x) (g x) v) xs

module _ {A B : Type 0} (f : A → Bool) (g : A → B) where
  pub newest_none : (v : B) (xs : List A) → any f xs ≡ false → newest f g v xs ≡ v
  unfolding any newest
  newest_none v [] e = refl
  newest_none v (x ∷ xs) e = let o = or_inv (f x) (any f xs) e in ap (λ (t : Bool). newest f g (cond t (g x) v) xs) o.0 ∙ newest_none v xs o.1

  at_split : (v : B) (before : List A) (x : A) (behind : List A) → f x ≡ true → any f behind ≡ false → newest f g v (before ++ (x ∷ behind)) ≡ g x
  unfolding newest
  at_split v [] x behind p n = ap (λ (t : Bool). newest f g (cond t (g x) v) behind) p ∙ newest_none (g x) behind n
  at_split v (y ∷ before) x behind p n = at_split (cond (f y) (g y) v) before x behind p n

  pub newest_latest : (v : B) (xs : List A) (x : A) → Latest f xs x → newest f g v xs ≡ g x
  newest_latest v xs x l = ap (newest f g v) l.among ∙ at_split v l.before x l.behind l.passes l.none

-- What joining keeps: a property of each range, that none touch, which places are covered, and that neither the order of the ranges nor their
-- numbers are seen. Assumes nothing.
use Prim.Native.Nat.{ℕ, ◌≤◌, ◌<◌}
use mathlib.Core.Path.{◌≡◌, refl, sym, ap, ap₂, ◌∙◌}
use mathlib.Core.Bool.{Bool, true, false, ◌&&◌, ◌||◌, cond, and_comm, or_assoc, or-true, true≢false, false≢true}
use mathlib.Core.List.{List, [], ◌∷◌, ◌++◌, map}
use mathlib.Core.Logic.{◌⊎◌, inl, inr, ⊎_elim, ◌↔◌}
use native.Mathlib.Nat.{le_refl}
use native.Mathlib.Omega.{arith}
use borrow.Author.Tests.{leb-true, leb-false, le-leb, lt-leb, ltb-true, ltb-false, lt-ltb, eqb-true, eq-eqb}
use lib.Dec.{leb, ltb, eqb}
use lib.ListN.{length, length-map}
use Rattle.numbers.specs.Answers.{All}
use Rattle.numbers.proofs.AnswerLaws.{all_map, all_both}
use Rattle.tp_machine.specs.declared.TpRange.{TpRange}
use Rattle.tp_machine.specs.Lists.{OneOf, Pairwise, Rearranged, nothing, first, swap, next}
use Rattle.tp_machine.specs.Segments.{offset, end_of}
use Rattle.tp_machine.specs.Ranges.{any, touch, hull_of, unless, keep, grow_if, grow, inserted, joined, some_touch}
use Rattle.tp_machine.specs.Meaning.{range, range_of, Apart}
use Rattle.tp_machine.specs.Runs.{around, Lies, holds, unnumbered}
use Rattle.tp_machine.specs.Theorems.{JoiningCovers, JoiningOrderUnseen}
use Rattle.numbers.proofs.TestLaws.{or_inv, or_cases, neither, or_swap, and_inv, same_test}
use Rattle.tp_machine.proofs.Lists.{all_moved, any_all, all_any, any_moved, pairwise_moved, unmoved, moved_back, one_of_moved}

-- ---- the grown range and those that are kept, in another order
pub inserted_moved : (g : TpRange) (xs : List TpRange) → Rearranged (g ∷ xs) (inserted g xs)
unfolding inserted
inserted_moved g [] = unmoved (g ∷ [])
inserted_moved g (x ∷ xs) = go (ltb g.start x.start) (inserted_moved g xs)
  where
    go : (t : Bool) → Rearranged (g ∷ xs) (inserted g xs) → Rearranged (g ∷ x ∷ xs) (cond t (g ∷ x ∷ xs) (x ∷ inserted g xs))
    go true later = unmoved (g ∷ x ∷ xs)
    go false later = next swap (first later)

pub joined_moved : (n : TpRange) (rs : List TpRange) → Rearranged (grow n n rs ∷ keep n rs) (joined n rs)
unfolding joined
joined_moved n rs = inserted_moved (grow n n rs) (keep n rs)

-- ---- a property of each range
module _ (P : TpRange → Type 0) where
  all_unless : (b : Bool) (x : TpRange) (xs : List TpRange) → (b ≡ false → P x) → All P xs → All P (unless b x xs)
  all_unless true x xs p e = e
  all_unless false x xs p e = (p refl, e)

  -- what each that is not touched has
  all_kept : (Q : TpRange → Type 0) (n : TpRange) → ((x : TpRange) → touch n x ≡ false → Q x → P x) → (xs : List TpRange) → All Q xs → All P (keep n xs)
  unfolding keep
  all_kept Q n f [] e = tt
  all_kept Q n f (x ∷ xs) e = all_unless (touch n x) x (keep n xs) (λ m. f x m e.0) (all_kept Q n f xs e.1)

  all_keep : (n : TpRange) (xs : List TpRange) → All P xs → All P (keep n xs)
  all_keep n xs e = all_kept P n (λ x _ p. p) xs e

  -- what the hull with a touched range keeps, growing keeps
  pub all_grow : (Q : TpRange → Type 0) (n : TpRange) → ((g r : TpRange) → touch n r ≡ true → P g → Q r → P (hull_of g r)) → (g : TpRange) (rs : List TpRange) → P g → All Q rs → P (grow n g rs)
  unfolding grow
  all_grow Q n f g [] p e = p
  all_grow Q n f g (r ∷ rs) p e = all_grow Q n f (grow_if (touch n r) g r) rs (one (touch n r) refl) e.1
    where
      one : (t : Bool) → touch n r ≡ t → P (grow_if t g r)
      one true m = f g r m p e.0
      one false m = p

  -- what those that are not touched have, and the grown one
  pub each_joined : (Q : TpRange → Type 0) (n : TpRange) → ((x : TpRange) → touch n x ≡ false → Q x → P x) → (rs : List TpRange) → All Q rs → P (grow n n rs) → All P (joined n rs)
  each_joined Q n f rs e p = all_moved P (joined_moved n rs) (p, all_kept Q n f rs e)

  pub all_joined : (n : TpRange) → ((g r : TpRange) → P g → P r → P (hull_of g r)) → (rs : List TpRange) → P n → All P rs → All P (joined n rs)
  all_joined n f rs p e = each_joined P n (λ x _ q. q) rs e (all_grow P n (λ g r _. f g r) n rs p e)

-- ---- two lists one behind the other
unless_append : (b : Bool) (r : TpRange) (xs ys : List TpRange) → unless b r xs ++ ys ≡ unless b r (xs ++ ys)
unless_append true r xs ys = refl
unless_append false r xs ys = refl

pub keep_append : (n : TpRange) (xs ys : List TpRange) → keep n (xs ++ ys) ≡ keep n xs ++ keep n ys
unfolding keep
keep_append n [] ys = refl
keep_append n (x ∷ xs) ys = ap (unless (touch n x) x) (keep_append n xs ys) ∙ sym (unless_append (touch n x) x (keep n xs) (keep n ys))

pub grow_append : (n g : TpRange) (xs ys : List TpRange) → grow n g (xs ++ ys) ≡ grow n (grow n g xs) ys
unfolding grow
grow_append n g [] ys = refl
grow_append n g (x ∷ xs) ys = grow_append n (grow_if (touch n x) g x) xs ys

-- ---- a list of which n touches none, or each
pub keep_none : (n : TpRange) (xs : List TpRange) → All (λ x. touch n x ≡ false) xs → keep n xs ≡ xs
unfolding keep
keep_none n [] e = refl
keep_none n (x ∷ xs) e = rw e.0 (ap (λ (l : List TpRange). x ∷ l) (keep_none n xs e.1))

pub keep_each : (n : TpRange) (xs : List TpRange) → All (λ x. touch n x ≡ true) xs → keep n xs ≡ []
unfolding keep
keep_each n [] e = refl
keep_each n (x ∷ xs) e = rw e.0 (keep_each n xs e.1)

pub grow_untouched : (n g : TpRange) (xs : List TpRange) → All (λ x. touch n x ≡ false) xs → grow n g xs ≡ g
unfolding grow
grow_untouched n g [] e = refl
grow_untouched n g (x ∷ xs) e = rw e.0 (grow_untouched n g xs e.1)

-- ---- a relation of each two that are not touched, and of the grown one to each of them, that holds both ways
module _ (R : TpRange → TpRange → Type 0) (n : TpRange) where
  pairwise_keep : (rs : List TpRange) → Pairwise R rs → Pairwise R (keep n rs)
  unfolding keep
  pairwise_keep [] p = tt
  pairwise_keep (r ∷ rs) p = go (touch n r) (pairwise_keep rs p.1)
    where
      go : (t : Bool) → Pairwise R (keep n rs) → Pairwise R (unless t r (keep n rs))
      go true later = later
      go false later = (all_keep (R r) n rs p.0, later)

  pub pairwise_joined : ((a b : TpRange) → R a b → R b a) → (rs : List TpRange) → Pairwise R rs → All (R (grow n n rs)) rs → Pairwise R (joined n rs)
  pairwise_joined both rs p a = pairwise_moved R both (joined_moved n rs) (all_keep (R (grow n n rs)) n rs a, pairwise_keep rs p)

-- the grown one is one of the joined
pub grown_joined : (n : TpRange) (rs : List TpRange) → OneOf (grow n n rs) (joined n rs)
grown_joined n rs = one_of_moved (grow n n rs) (joined_moved n rs) (inl refl)

-- ---- touching
pub apart : (a b : TpRange) → touch a b ≡ false → Apart a b
unfolding touch
apart a b e = go (leb a.start b.end) refl e
  where
    go : (t : Bool) → leb a.start b.end ≡ t → (t && leb b.start a.end) ≡ false → Apart a b
    go true p q = inl (leb-false _ _ q)
    go false p q = inr (leb-false _ _ p)

pub meets : (a b : TpRange) → touch a b ≡ true → (a.start ≤ b.end) × (b.start ≤ a.end)
unfolding touch
meets a b e = let o = and_inv (leb a.start b.end) (leb b.start a.end) e in (leb-true _ _ o.0, leb-true _ _ o.1)

pub touching : (a b : TpRange) → a.start ≤ b.end → b.start ≤ a.end → touch a b ≡ true
unfolding touch
touching a b p q = rw (le-leb a.start b.end p, le-leb b.start a.end q)

apart_left : (a b : TpRange) → b.end < a.start → touch a b ≡ false
unfolding touch
apart_left a b h = rw (lt-leb a.start b.end h)

touch_sym : (a b : TpRange) → touch a b ≡ touch b a
unfolding touch
touch_sym a b = and_comm (leb a.start b.end) (leb b.start a.end)

pub untouched : (a b : TpRange) → Apart a b → touch a b ≡ false
untouched a b h = ⊎_elim (λ p. touch_sym a b ∙ apart_left b a p) (λ p. apart_left a b p) h

-- whether some touch, the order does not tell
pub touch_moved : {rs qs : List TpRange} → Rearranged rs qs → some_touch rs ≡ some_touch qs
unfolding some_touch any
touch_moved nothing = refl
touch_moved (first {a} {l} {m} r) = rw (any_moved (touch a) r, touch_moved r)
touch_moved (swap {a} {b} {l}) = rw (touch_sym a b) (turn (touch b a) (any (touch a) l) (any (touch b) l) (some_touch l))
  where
    turn : (t x y z : Bool) → ((t || x) || (y || z)) ≡ ((t || y) || (x || z))
    turn true x y z = refl
    turn false x y z = or_swap x y z
touch_moved (next r s) = touch_moved r ∙ touch_moved s

-- none of a list touch exactly when each two are apart
pub all_apart : (rs : List TpRange) → (some_touch rs ≡ false) ↔ Pairwise Apart rs
unfolding some_touch
all_apart [] = ((λ e. tt), (λ h. refl))
all_apart (r ∷ rs) = (
  (λ e. let o = or_inv (any (touch r) rs) (some_touch rs) e in (all_map (λ x. touch r x ≡ false) (Apart r) (apart r) rs (any_all (touch r) rs o.0), (all_apart rs).0 o.1)),
  (λ h. neither _ _ (all_any (touch r) rs (all_map (Apart r) (λ x. touch r x ≡ false) (untouched r) rs h.0)) ((all_apart rs).1 h.1)),
)

-- ---- none touch after joining

-- g holds all of n
abbrev Around : TpRange → TpRange → Type 0
Around n g = (g.start ≤ n.start) × (n.end ≤ g.end)

around_hull : (n g r : TpRange) → Around n g → Around n (hull_of g r)
unfolding hull_of
around_hull n g r a = (omega arith, omega arith)

-- so does the range that n has grown to
pub grow_around : (n : TpRange) (rs : List TpRange) → Around n (grow n n rs)
grow_around n rs = all_grow (Around n) (λ r. Unit {0}) n (λ g r _ a _. around_hull n g r a) n rs (le_refl n.start, le_refl n.end) (every rs)
  where
    every : (xs : List TpRange) → All (λ r. Unit {0}) xs
    every [] = tt
    every (x ∷ xs) = (tt, every xs)

-- a range that is apart from two that meet is apart from their hull
hull_apart : (x g r n : TpRange) → x.start ≤ x.end → Around n g → touch n r ≡ true → touch x g ≡ false → touch x r ≡ false → touch x (hull_of g r) ≡ false
unfolding hull_of
hull_apart x g r n w o m a b =
    let h : (n.start ≤ r.end) × (r.start ≤ n.end) = meets n r m in
    untouched x (hull_of g r) (⊎_elim
    (λ p. ⊎_elim (λ q. inl (omega arith)) (λ q. absurd (omega arith)) (apart x r b))
    (λ p. ⊎_elim (λ q. absurd (omega arith)) (λ q. inr (omega arith)) (apart x r b))
    (apart x g a))

-- those of rs that n touches are apart from x
abbrev Away : TpRange → TpRange → TpRange → Type 0
Away n x r = touch n r ≡ true → touch x r ≡ false

grow_apart : (x n : TpRange) (rs : List TpRange) → x.start ≤ x.end → touch x n ≡ false → All (Away n x) rs → touch x (grow n n rs) ≡ false
grow_apart x n rs w a e =
    (all_grow (λ g. (touch x g ≡ false) × Around n g) (Away n x) n (λ g r m p q. (hull_apart x g r n w p.1 m p.0 (q m), around_hull n g r p.1)) n rs
    (a, (le_refl n.start, le_refl n.end)) e).0

-- each that is kept is apart from n, and from those that n touches
keep_away : (n : TpRange) (rs : List TpRange) → some_touch rs ≡ false → All (λ x. (touch x n ≡ false) × All (Away n x) rs) (keep n rs)
unfolding keep some_touch
keep_away n [] e = tt
keep_away n (r ∷ rs) e =
    let h = or_inv (any (touch r) rs) (some_touch rs) e in
    let others : All (λ x. touch r x ≡ false) rs = any_all (touch r) rs h.0 in
    all_unless (λ x. (touch x n ≡ false) × All (Away n x) (r ∷ rs)) (touch n r) r (keep n rs)
    (λ m. (touch_sym r n ∙ m, (λ t. absurd (true≢false (sym t ∙ m)), all_map (λ x. touch r x ≡ false) (Away n r) (λ x p _. p) rs others)))
    (all_map (λ x. ((touch x n ≡ false) × All (Away n x) rs) × (touch r x ≡ false)) (λ x. (touch x n ≡ false) × All (Away n x) (r ∷ rs))
    (λ x p. (p.0.0, (λ _. touch_sym x r ∙ p.1, p.0.1))) (keep n rs)
    (all_both (λ x. (touch x n ≡ false) × All (Away n x) rs) (λ x. touch r x ≡ false) (keep n rs) (keep_away n rs h.1) (all_keep (λ x. touch r x ≡ false) n rs others)))

-- what is kept does not touch, nor does what n has grown to
keep_apart : (n : TpRange) (rs : List TpRange) → some_touch rs ≡ false → some_touch (keep n rs) ≡ false
unfolding keep some_touch
keep_apart n [] e = refl
keep_apart n (r ∷ rs) e =
    let h = or_inv (any (touch r) rs) (some_touch rs) e in
    go (touch n r) (all_any (touch r) (keep n rs) (all_keep (λ x. touch r x ≡ false) n rs (any_all (touch r) rs h.0))) (keep_apart n rs h.1)
  where
    go : (b : Bool) → any (touch r) (keep n rs) ≡ false → some_touch (keep n rs) ≡ false → some_touch (unless b r (keep n rs)) ≡ false
    go true p q = q
    go false p q = neither _ _ p q

pub joined_apart : (n : TpRange) (rs : List TpRange) → some_touch rs ≡ false → All (λ r. r.start ≤ r.end) rs → some_touch (joined n rs) ≡ false
unfolding some_touch
joined_apart n rs e w =
    sym (touch_moved (joined_moved n rs))
    ∙ neither _ _
    (all_any (touch (grow n n rs)) (keep n rs)
    (all_map (λ x. ((touch x n ≡ false) × All (Away n x) rs) × (x.start ≤ x.end)) (λ x. touch (grow n n rs) x ≡ false)
    (λ x q. touch_sym (grow n n rs) x ∙ grow_apart x n rs q.1 q.0.0 q.0.1) (keep n rs)
    (all_both (λ x. (touch x n ≡ false) × All (Away n x) rs) (λ x. x.start ≤ x.end) (keep n rs) (keep_away n rs e) (all_keep (λ x. x.start ≤ x.end) n rs w))))
    (keep_apart n rs e)

-- ---- a test that a hull passes exactly when one of the two passes it: one of the joined ranges passes exactly when the new one or an old one does
module _ (f : TpRange → Bool) (n : TpRange) (hull : (g r : TpRange) → Around n g → touch n r ≡ true → f (hull_of g r) ≡ (f g || f r)) where
  grow_any : (g : TpRange) (rs : List TpRange) → Around n g → (f (grow n g rs) || any f (keep n rs)) ≡ (f g || any f rs)
  unfolding keep grow any
  grow_any g [] a = refl
  grow_any g (r ∷ rs) a = go (λ h. grow_any h rs) (touch n r) refl
    where
      go : ((h : TpRange) → Around n h → (f (grow n h rs) || any f (keep n rs)) ≡ (f h || any f rs)) → (t : Bool) → touch n r ≡ t → (f (grow n (grow_if t g r) rs) || any f (unless t r (keep n rs))) ≡ (f g || (f r || any f rs))
      go e true m = e (hull_of g r) (around_hull n g r a) ∙ ap (λ (b : Bool). b || any f rs) (hull g r a m) ∙ or_assoc (f g) (f r) (any f rs)
      go e false m = or_swap (f (grow n g rs)) (f r) (any f (keep n rs)) ∙ ap (◌||◌ (f r)) (e g a) ∙ or_swap (f r) (f g) (any f rs)

  joined_any : (rs : List TpRange) → any f (joined n rs) ≡ (f n || any f rs)
  unfolding any
  joined_any rs = sym (any_moved f (joined_moved n rs)) ∙ grow_any n rs (le_refl n.start, le_refl n.end)

-- ---- a test that a hull passes where one of the two does: it stays passed
module _ (f : TpRange → Bool) (n : TpRange) (hull : (g r : TpRange) → (f g ≡ true) ⊎ (f r ≡ true) → f (hull_of g r) ≡ true) where
  grow_some : (g : TpRange) (rs : List TpRange) → (f g ≡ true) ⊎ (any f rs ≡ true) → (f (grow n g rs) || any f (keep n rs)) ≡ true
  unfolding keep grow any
  grow_some g [] (inl e) = rw e
  grow_some g [] (inr e) = absurd (false≢true e)
  grow_some g (r ∷ rs) o = go (λ h. grow_some h rs) (touch n r) o
    where
      go : ((h : TpRange) → (f h ≡ true) ⊎ (any f rs ≡ true) → (f (grow n h rs) || any f (keep n rs)) ≡ true) → (t : Bool) → (f g ≡ true) ⊎ ((f r || any f rs) ≡ true) → (f (grow n (grow_if t g r) rs) || any f (unless t r (keep n rs))) ≡ true
      go later true q =
          later (hull_of g r) (⊎_elim (λ e. inl (hull g r (inl e))) (λ e. ⊎_elim (λ k. inl (hull g r (inr k))) (λ k. inr k) (or_cases (f r) (any f rs) e)) q)
      go later false q =
          or_swap (f (grow n g rs)) (f r) (any f (keep n rs))
          ∙ ⊎_elim (λ e. rw (later g (inl e)) (or-true (f r))) (λ e. ⊎_elim (λ k. rw k) (λ k. rw (later g (inr k)) (or-true (f r))) (or_cases (f r) (any f rs) e)) q

  joined_some : (rs : List TpRange) → (f n ≡ true) ⊎ (any f rs ≡ true) → any f (joined n rs) ≡ true
  unfolding any
  joined_some rs o = sym (any_moved f (joined_moved n rs)) ∙ grow_some n rs o

pub lies_around : (s : List ℕ) (r : TpRange) → around s r ≡ true → (r.start ≤ offset s) × (end_of s ≤ r.end)
unfolding around
lies_around s r e = let o = and_inv (leb r.start (offset s)) (leb (end_of s) r.end) e in (leb-true r.start (offset s) o.0, leb-true (end_of s) r.end o.1)

pub is_around : (s : List ℕ) (r : TpRange) → (r.start ≤ offset s) × (end_of s ≤ r.end) → around s r ≡ true
unfolding around
is_around s r a = rw (le-leb r.start (offset s) a.0, le-leb (end_of s) r.end a.1)

hull_lies : (s : List ℕ) (g r : TpRange) → (around s g ≡ true) ⊎ (around s r ≡ true) → around s (hull_of g r) ≡ true
unfolding hull_of
hull_lies s g r (inl e) = let a = lies_around s g e in is_around s (hull_of g r) (omega arith, omega arith)
hull_lies s g r (inr e) = let a = lies_around s r e in is_around s (hull_of g r) (omega arith, omega arith)

-- a segment lies in one of the joined ranges if its range has come, or if it lay in one before
pub new_lies : (number : ℕ) (s : List ℕ) (rs : List TpRange) → Lies (joined (range_of number s) rs) s
new_lies number s rs = joined_some (around s) (range_of number s) (hull_lies s) rs (inl (is_around s (range_of number s) (le_refl (offset s), le_refl (end_of s))))

pub still_lies : (s : List ℕ) (n : TpRange) (rs : List TpRange) → Lies rs s → Lies (joined n rs) s
still_lies s n rs h = joined_some (around s) n (hull_lies s) rs (inr h)

-- ---- the places that are covered
pub held : (x : ℕ) (r : TpRange) → holds x r ≡ true → (r.start ≤ x) × (x < r.end)
unfolding holds
held x r e = let o = and_inv (leb r.start x) (ltb x r.end) e in (leb-true r.start x o.0, ltb-true x r.end o.1)

pub is_held : (x : ℕ) (r : TpRange) → r.start ≤ x → x < r.end → holds x r ≡ true
unfolding holds
is_held x r p q = rw (le-leb r.start x p, lt-ltb x r.end q)

-- the hull of two that meet covers what they cover
hull_covers : (x : ℕ) (n g r : TpRange) → Around n g → touch n r ≡ true → holds x (hull_of g r) ≡ (holds x g || holds x r)
unfolding hull_of
hull_covers x n g r a m =
    let h : (n.start ≤ r.end) × (r.start ≤ n.end) = meets n r m in
    same_test (holds x (hull_of g r)) (holds x g || holds x r) (λ e. there (held x (hull_of g r) e))
    (λ e. ⊎_elim (λ q. let k = held x g q in is_held x (hull_of g r) (omega arith) (omega arith)) (λ q. let k = held x r q in is_held x (hull_of g r) (omega arith) (omega arith)) (or_cases (holds x g) (holds x r) e))
  where
    there : ((hull_of g r).start ≤ x) × (x < (hull_of g r).end) → (holds x g || holds x r) ≡ true
    there k = go (leb g.start x) refl (ltb x g.end) refl
      where
        in_r : r.start ≤ x → x < r.end → (holds x g || holds x r) ≡ true
        in_r p q = rw (is_held x r p q) (or-true (holds x g))

        go : (s : Bool) → leb g.start x ≡ s → (t : Bool) → ltb x g.end ≡ t → (holds x g || holds x r) ≡ true
        go true p true q = rw (is_held x g (leb-true _ _ p) (ltb-true _ _ q))
        go true p false q = let h = meets n r m in in_r (omega (arith, ltb-false x g.end q)) (omega (arith, ltb-false x g.end q))
        go false p t q = let h = meets n r m in in_r (omega (arith, leb-false g.start x p)) (omega (arith, leb-false g.start x p))

pub joining_covers : JoiningCovers
joining_covers n rs x = joined_any (holds x) n (hull_covers x n) rs

-- ---- a range that begins at 0
abbrev pub at_zero : TpRange → Bool
at_zero r = eqb r.start 0

hull_at_zero : (g r : TpRange) → at_zero (hull_of g r) ≡ (at_zero g || at_zero r)
unfolding hull_of
hull_at_zero g r =
    same_test (at_zero (hull_of g r)) (at_zero g || at_zero r) (λ e. there (eqb-true (hull_of g r).start 0 e) (leb g.start r.start) refl)
    (λ e. eq-eqb (hull_of g r).start 0 (⊎_elim (λ p. omega (arith, eqb-true g.start 0 p)) (λ p. omega (arith, eqb-true r.start 0 p)) (or_cases (at_zero g) (at_zero r) e)))
  where
    there : (hull_of g r).start ≡ 0 → (t : Bool) → leb g.start r.start ≡ t → (at_zero g || at_zero r) ≡ true
    there e true p = rw (eq-eqb g.start 0 (omega (arith, leb-true g.start r.start p)))
    there e false p = rw (eq-eqb r.start 0 (omega (arith, leb-false g.start r.start p))) (or-true (at_zero g))

pub joined_at_zero : (n : TpRange) (rs : List TpRange) → any at_zero (joined n rs) ≡ (at_zero n || any at_zero rs)
joined_at_zero n rs = joined_any at_zero n (λ g r _ _. hull_at_zero g r) rs

-- ---- the order of the ranges
-- two ranges are equal by their fields
pub same_range : (a b : TpRange) → a.start ≡ b.start → a.end ≡ b.end → a.number ≡ b.number → a ≡ b
same_range a b p q r = ap₂ (λ (s e : ℕ). range s e a.number) p q ∙ ap (range b.start b.end) r

hull_swap : (g a b : TpRange) → hull_of (hull_of g a) b ≡ hull_of (hull_of g b) a
unfolding hull_of
hull_swap g a b = same_range (hull_of (hull_of g a) b) (hull_of (hull_of g b) a) (omega arith) (omega arith) (omega arith)

grow_swap : (g a b : TpRange) (s t : Bool) → grow_if t (grow_if s g a) b ≡ grow_if s (grow_if t g b) a
grow_swap g a b true true = hull_swap g a b
grow_swap g a b true false = refl
grow_swap g a b false true = refl
grow_swap g a b false false = refl

grow_moved : (n g : TpRange) {rs qs : List TpRange} → Rearranged rs qs → grow n g rs ≡ grow n g qs
unfolding grow
grow_moved n g nothing = refl
grow_moved n g (first {a} r) = grow_moved n (grow_if (touch n a) g a) r
grow_moved n g (swap {a} {b} {l}) = ap (λ (h : TpRange). grow n h l) (grow_swap g a b (touch n a) (touch n b))
grow_moved n g (next r s) = grow_moved n g r ∙ grow_moved n g s

unless_moved : (t : Bool) (a : TpRange) {l m : List TpRange} → Rearranged l m → Rearranged (unless t a l) (unless t a m)
unless_moved true a r = r
unless_moved false a r = first r

unless_swap : (s t : Bool) (a b : TpRange) (l : List TpRange) → Rearranged (unless s a (unless t b l)) (unless t b (unless s a l))
unless_swap true t a b l = unmoved (unless t b l)
unless_swap false true a b l = unmoved (a ∷ l)
unless_swap false false a b l = swap

keep_moved : (n : TpRange) {rs qs : List TpRange} → Rearranged rs qs → Rearranged (keep n rs) (keep n qs)
unfolding keep
keep_moved n nothing = nothing
keep_moved n (first {a} r) = unless_moved (touch n a) a (keep_moved n r)
keep_moved n (swap {a} {b} {l}) = unless_swap (touch n a) (touch n b) a b (keep n l)
keep_moved n (next r s) = next (keep_moved n r) (keep_moved n s)

pub joining_order_unseen : JoiningOrderUnseen
joining_order_unseen n rs qs r =
    let grown : Rearranged (grow n n rs ∷ keep n rs) (grow n n qs ∷ keep n qs) = rw (grow_moved n n r) (first (keep_moved n r)) in
    next (moved_back (joined_moved n rs)) (next grown (joined_moved n qs))

-- ---- numbers: the hull of two has the hull of what they span, and so on
unless_unnumbered : (t : Bool) (r : TpRange) (rs : List TpRange) → map unnumbered (unless t r rs) ≡ unless t (unnumbered r) (map unnumbered rs)
unless_unnumbered true r rs = refl
unless_unnumbered false r rs = refl

keep_unnumbered : (n : TpRange) (rs : List TpRange) → map unnumbered (keep n rs) ≡ keep (unnumbered n) (map unnumbered rs)
unfolding keep touch
keep_unnumbered n [] = refl
keep_unnumbered n (r ∷ rs) = unless_unnumbered (touch n r) r (keep n rs) ∙ ap (unless (touch n r) (unnumbered r)) (keep_unnumbered n rs)

grow_if_unnumbered : (t : Bool) (g r : TpRange) → unnumbered (grow_if t g r) ≡ grow_if t (unnumbered g) (unnumbered r)
unfolding hull_of
grow_if_unnumbered true g r = refl
grow_if_unnumbered false g r = refl

grow_unnumbered : (n g : TpRange) (rs : List TpRange) → unnumbered (grow n g rs) ≡ grow (unnumbered n) (unnumbered g) (map unnumbered rs)
unfolding grow touch
grow_unnumbered n g [] = refl
grow_unnumbered n g (r ∷ rs) = grow_unnumbered n (grow_if (touch n r) g r) rs ∙ ap (λ (h : TpRange). grow (unnumbered n) h (map unnumbered rs)) (grow_if_unnumbered (touch n r) g r)

inserted_unnumbered : (g : TpRange) (xs : List TpRange) → map unnumbered (inserted g xs) ≡ inserted (unnumbered g) (map unnumbered xs)
unfolding inserted
inserted_unnumbered g [] = refl
inserted_unnumbered g (x ∷ xs) = go (ltb g.start x.start) (inserted_unnumbered g xs)
  where
    go : (t : Bool) → map unnumbered (inserted g xs) ≡ inserted (unnumbered g) (map unnumbered xs)
        → map unnumbered (cond t (g ∷ x ∷ xs) (x ∷ inserted g xs)) ≡ cond t (unnumbered g ∷ unnumbered x ∷ map unnumbered xs) (unnumbered x ∷ inserted (unnumbered g) (map unnumbered xs))
    go true later = refl
    go false later = ap (λ (l : List TpRange). unnumbered x ∷ l) later

pub joined_unnumbered : (n : TpRange) (rs : List TpRange) → map unnumbered (joined n rs) ≡ joined (unnumbered n) (map unnumbered rs)
unfolding joined
joined_unnumbered n rs = inserted_unnumbered (grow n n rs) (keep n rs) ∙ rw (keep_unnumbered n rs, grow_unnumbered n n rs)

-- how many there are then does not depend on the new one's number
pub joined_many : (a b : TpRange) (rs : List TpRange) → unnumbered a ≡ unnumbered b → length (joined a rs) ≡ length (joined b rs)
joined_many a b rs e =
    sym (length-map (joined a rs) unnumbered) ∙ ap length (joined_unnumbered a rs ∙ ap (λ (n : TpRange). joined n (map unnumbered rs)) e ∙ sym (joined_unnumbered b rs))
    ∙ length-map (joined b rs) unnumbered
